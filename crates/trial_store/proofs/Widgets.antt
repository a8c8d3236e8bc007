-- A model without widgets.
use Rattle.std.proofs.Common.{[], refl, lit<}
use Rattle.nl_words.specs.Rows.{rows}
use Rattle.nl_tree.specs.Names.{AreWidgets}

pub none_are_widgets : AreWidgets []
unfolding rows
none_are_widgets = (refl, lit< tt)
