use Rattle.std.proofs.Common.{[], All, length}
use Rattle.nl_scan.specs.Tokens.{IsTokenOf}
use Rattle.nl_experiment_keys.specs.Literals.{literal_from}
use Rattle.nl_experiment_keys.specs.inner.Taking.{AreAlike}
use Rattle.nl_experiment_keys.proofs.literals.read.Given as goal

abbrev pub decreases-tokens : goal.decreases-tokens
decreases-tokens l = length l.left

abbrev pub invariant-tokens : goal.invariant-tokens
invariant-tokens l = AreAlike (literal_from l.fn.text l.left l.nested) (literal_from l.fn.text l.fn.tokens []) × All (IsTokenOf l.fn.text) l.left
