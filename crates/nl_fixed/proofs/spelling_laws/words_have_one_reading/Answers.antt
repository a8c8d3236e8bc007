use Rattle.nl_fixed.proofs.SpellingLawProofs.{parts_follow_the_form, form_is_computed, parts_are_unique}
use Rattle.nl_fixed.proofs.spelling_laws.words_have_one_reading.Goals as goal

pub returns-clause-computed : goal.returns-clause-computed
returns-clause-computed c = parts_follow_the_form

pub returns-clause-unique : goal.returns-clause-unique
returns-clause-unique c = parts_are_unique

pub returns-clause-form : goal.returns-clause-form
returns-clause-form c = form_is_computed
