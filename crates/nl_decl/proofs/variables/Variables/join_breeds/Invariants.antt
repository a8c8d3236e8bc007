use Rattle.std.proofs.Common.{◌≡◌, ◌++◌, drop}
use Rattle.nl_tree.specs.Vocabulary.{breed_names}
use Rattle.nl_decl.specs.inner.Index.{beyond}
use Rattle.nl_decl.proofs.variables.Variables.join_breeds.Given as goal

-- the variables of the breeds so far stand there, and the rest follows
abbrev pub invariant-breeds : goal.invariant-breeds
invariant-breeds l = l.self.names ++ beyond l.self.seen (breed_names (drop l.breed-index l.breeds)) ≡ l.fn.self.names ++ beyond l.fn.self.seen (breed_names l.breeds)
