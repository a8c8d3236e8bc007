-- Names that widgets may have: none, and one that tests use.
use Rattle.std.proofs.Common.{[], ◌∷◌, refl, lit<}
use Rattle.std.specs.Prelude.{codes}
use Rattle.nl_words.specs.Rows.{rows}
use Rattle.nl_tree.specs.Names.{AreWidgets}

pub none_are_widgets : AreWidgets []
unfolding rows
none_are_widgets = (refl, lit< tt)

pub speed_is_a_widget : AreWidgets (codes "speed" ∷ [])
unfolding rows
speed_is_a_widget = (refl, lit< tt)
