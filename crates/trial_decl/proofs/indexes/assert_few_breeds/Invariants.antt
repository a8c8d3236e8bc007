use Rattle.std.proofs.Common.{◌≤◌, ◌+◌, ◌*◌, length, drop}
use Rattle.nl_tree.specs.Names.{breeds_names}
use Rattle.trial_decl.proofs.indexes.assert_few_breeds.Given as goal

abbrev pub invariant-breeds : goal.invariant-breeds
invariant-breeds g l = length (breeds_names l.breeds) ≤ 10002 * l.breed-index + length (breeds_names (drop l.breed-index l.breeds))
