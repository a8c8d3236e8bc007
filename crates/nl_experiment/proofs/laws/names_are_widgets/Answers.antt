use Rattle.nl_experiment.proofs.Kept.{names_are_widgets}
use Rattle.nl_experiment.proofs.laws.names_are_widgets.Goals as goal

pub returns : goal.returns
returns c = names_are_widgets
