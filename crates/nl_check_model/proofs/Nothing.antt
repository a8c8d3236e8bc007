-- The model of the tests, which declares nothing.
use Rattle.std.proofs.Common.{List, [], refl, lit<}
use Rattle.std.specs.List.Sorted.{IsPermutation}
use Rattle.nl_words.specs.Rows.{rows}
use Rattle.nl_tree.specs.declared.declared.Declared.{Declared}
use Rattle.nl_tree.specs.Names.{IsDeclared}
use Rattle.nl_tree.specs.Term.{Term}

abbrev nothing_of : List Term → Declared
nothing_of index = record { widgets = []; globals = []; turtles_own = []; patches_own = []; links_own = []; breeds = []; procedures = []; index = index }

pub nothing_names : (index : List Term) → IsPermutation [] index → IsDeclared (nothing_of index)
unfolding rows
nothing_names index moved = (refl, lit< tt, moved)
