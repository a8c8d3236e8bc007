use Rattle.nl_check_model.proofs.OneThing.{inners_are_one, texts_have_trees_or_faults, trees_are_one, trees_have_no_faults}
use Rattle.nl_check_model.proofs.lone_laws.lone_texts_say_one_thing.Goals as goal

pub returns-clause-either : goal.returns-clause-either
returns-clause-either c = texts_have_trees_or_faults

pub returns-clause-apart : goal.returns-clause-apart
returns-clause-apart c = trees_have_no_faults

pub returns-clause-trees : goal.returns-clause-trees
returns-clause-trees c = trees_are_one

pub returns-clause-faults : goal.returns-clause-faults
returns-clause-faults c = inners_are_one
