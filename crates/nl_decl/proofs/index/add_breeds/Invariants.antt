use Rattle.std.proofs.Common.{◌≡◌, ◌+◌, ◌++◌, map, drop}
use Rattle.nl_tree.specs.Index.{term_of}
use Rattle.nl_tree.specs.Vocabulary.{breed_terms}
use Rattle.nl_decl.proofs.index.add_breeds.Given as goal

-- the words of the breeds so far have rows, and the rest follows
abbrev pub invariant-breeds : goal.invariant-breeds
invariant-breeds l =
    (l.number ≡ l.breed-index + 1)
    × (map term_of l.list.items ++ breed_terms l.number (drop l.breed-index l.breeds) ≡ map term_of l.fn.list.items ++ breed_terms 1 l.breeds)
