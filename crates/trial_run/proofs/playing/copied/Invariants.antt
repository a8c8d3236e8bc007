-- The names so far, and those that are left.
use Rattle.std.proofs.Common.{◌≡◌, ◌++◌, drop}
use Rattle.trial_run.proofs.playing.copied.Given as goal

abbrev pub invariant-names : goal.invariant-names
invariant-names l = l.copy ++ drop l.name-index l.all ≡ l.all
