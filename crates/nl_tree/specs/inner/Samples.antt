-- A small model, by which the tests show that a program can be had.
use Rattle.std.specs.Prelude.{false, List, [], map, codes}
use Rattle.nl_words.specs.Row.{Row}
use Rattle.nl_tree.specs.declared.tree.Label.TheVariants as label
use Rattle.nl_tree.specs.declared.declared.Procedure.{Procedure}
use Rattle.nl_tree.specs.declared.declared.Declared.{Declared}
use Rattle.nl_tree.specs.declared.declared.NamedWhat.{NamedWhat}
use Rattle.nl_tree.specs.Tree.{Node, node, none}
use Rattle.nl_tree.specs.Vocabulary.{counted, base_term, procedure_term, named_what}

abbrev pub declaring : List Procedure → Declared
declaring ps = record { widgets = []; globals = []; turtles_own = []; patches_own = []; links_own = []; breeds = []; procedures = ps; index = counted procedure_term 0 ps }

-- to go end
abbrev pub going : Procedure
going = record { name = codes "go"; reporter = false; inputs = []; first = 2; after = 2 }

abbrev pub going_body : Node
going_body = node label.Commands (record { start = 6; len = 3 }) none

-- what built-in words are
abbrev pub base_whats : List Row → List NamedWhat
base_whats rs = map (λ r. named_what (base_term r)) rs
