-- The widget of the model of which stores are tried.
use Rattle.std.proofs.Common.{[], ◌∷◌, refl, lit<}
use Rattle.std.specs.Prelude.{codes}
use Rattle.nl_words.specs.Rows.{rows}
use Rattle.nl_tree.specs.Names.{AreWidgets}

pub speed_is_a_widget : AreWidgets (codes "speed" ∷ [])
unfolding rows
speed_is_a_widget = (refl, lit< tt)
