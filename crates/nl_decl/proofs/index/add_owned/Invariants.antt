use Rattle.std.proofs.Common.{◌≡◌, ◌++◌, map, drop}
use Rattle.nl_tree.specs.declared.declared.Declared.{Declared}
use Rattle.nl_tree.specs.Index.{term_of}
use Rattle.nl_tree.specs.Vocabulary.{counted, owned_term}
use Rattle.nl_decl.specs.inner.Index.{Owns}
use Rattle.nl_decl.proofs.index.add_owned.Given as goal

-- the names so far have rows, and the rest follows
abbrev pub invariant-names : goal.invariant-names
invariant-names l =
    (l.place ≡ l.name-index)
    × ((d : Declared) → Owns d l.owned → map term_of l.list.items ++ counted (owned_term d) l.place (drop l.name-index l.names) ≡ map term_of l.fn.list.items ++ counted (owned_term d) 0 l.names)
