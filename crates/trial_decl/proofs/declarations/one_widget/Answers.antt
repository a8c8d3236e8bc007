use Rattle.nl_check_model.proofs.Widgets.{speed_is_a_widget}
use Rattle.trial_decl.proofs.declarations.one_widget.Goals as goal

pub returns : goal.returns
returns c = rw (c.in_ok-push.ensures.ok, c.empty-names.ensures, c.in_ok-name.ensures.ok) speed_is_a_widget
