use Rattle.nl_fixed.proofs.SpellingLawProofs.{words_read_as_rounded, others_read_as_nothing}
use Rattle.nl_fixed.proofs.spelling_laws.words_read_by_their_form.Goals as goal

pub returns-clause-rounded : goal.returns-clause-rounded
returns-clause-rounded c = words_read_as_rounded

pub returns-clause-others : goal.returns-clause-others
returns-clause-others c = others_read_as_nothing
