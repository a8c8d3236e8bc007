use Rattle.nl_check_model.proofs.Widgets.{none_are_widgets}
use Rattle.trial_exec.proofs.playing.no_widgets.Goals as goal

pub returns : goal.returns
returns c = rw c.empty.ensures none_are_widgets
