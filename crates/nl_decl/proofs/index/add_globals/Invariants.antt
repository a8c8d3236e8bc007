use Rattle.std.proofs.Common.{◌≡◌, ◌++◌, map, drop}
use Rattle.nl_tree.specs.Index.{term_of}
use Rattle.nl_tree.specs.Vocabulary.{counted, global_term}
use Rattle.nl_decl.proofs.index.add_globals.Given as goal

-- the names so far have rows, and the rest follows
abbrev pub invariant-names : goal.invariant-names
invariant-names l =
    (l.place ≡ l.name-index)
    × (map term_of l.list.items ++ counted global_term l.place (drop l.name-index l.names) ≡ map term_of l.fn.list.items ++ counted global_term 0 l.names)
