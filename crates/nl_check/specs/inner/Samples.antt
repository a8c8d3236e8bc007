-- A small model, for tests.
use Rattle.std.specs.Prelude.{Bool, true, false, List, [], ◌∷◌, codes}
use Rattle.nl_fixed.specs.Nouns.{Name}
use Rattle.nl_tree.specs.declared.tree.Label.TheVariants as label
use Rattle.nl_tree.specs.declared.declared.Procedure.{Procedure}
use Rattle.nl_tree.specs.declared.declared.Declared.{Declared}
use Rattle.nl_tree.specs.Term.{Term}
use Rattle.nl_tree.specs.Tree.{Node, node, none}

abbrev pub procedure_named : Name → Bool → Procedure
procedure_named name reporter = record { name = name; reporter = reporter; inputs = []; first = 0; after = 0 }

-- the procedures a, b and c, and the reporter r
abbrev pub sample_procedures : List Procedure
sample_procedures = procedure_named (codes "a") false ∷ procedure_named (codes "b") false ∷ procedure_named (codes "c") false ∷ procedure_named (codes "r") true ∷ []

abbrev pub model_of : List Term → Declared
model_of index = record { widgets = []; globals = []; turtles_own = []; patches_own = []; links_own = []; breeds = []; procedures = sample_procedures; index = index }

-- a body without words
abbrev pub empty_body : Node
empty_body = node label.Commands (record { start = 0; len = 3 }) none
