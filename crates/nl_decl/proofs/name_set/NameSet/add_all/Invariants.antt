use Rattle.std.proofs.Common.{◌≡◌, ℕ, List, ◌||◌, drop}
use Rattle.nl_tree.specs.Vocabulary.{among}
use Rattle.nl_decl.specs.inner.Index.{has}
use Rattle.nl_decl.proofs.name_set.NameSet.add_all.Given as goal

-- the names so far are in the set, and the rest follows
abbrev pub invariant-names : goal.invariant-names
invariant-names l = (q : List ℕ) → (among q (drop l.name-index l.names) || has l.self q) ≡ (among q l.names || has l.fn.self q)
