use Rattle.trial_store.proofs.Widgets.{none_are_widgets}
use Rattle.trial_store.proofs.bundles.no_widgets.Goals as goal

pub returns : goal.returns
returns c = rw c.empty.ensures none_are_widgets
