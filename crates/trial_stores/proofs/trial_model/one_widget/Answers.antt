use Rattle.trial_stores.proofs.Widgets.{speed_is_a_widget}
use Rattle.trial_stores.proofs.trial_model.one_widget.Goals as goal

pub returns : goal.returns
returns c = rw (c.in_ok-push.ensures.ok, c.empty-names.ensures, c.in_ok-name.ensures.ok) speed_is_a_widget
