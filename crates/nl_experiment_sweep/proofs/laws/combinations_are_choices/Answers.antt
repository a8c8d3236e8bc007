use Rattle.nl_experiment_sweep.proofs.Chosen.{choices_have_one_combination, combinations_are_choices, settings_are_the_combinations}
use Rattle.nl_experiment_sweep.proofs.laws.combinations_are_choices.Goals as goal

pub returns-clause-settings : goal.returns-clause-settings
returns-clause-settings c = settings_are_the_combinations

pub returns-clause-choices : goal.returns-clause-choices
returns-clause-choices c = combinations_are_choices

pub returns-clause-once : goal.returns-clause-once
returns-clause-once c = choices_have_one_combination
