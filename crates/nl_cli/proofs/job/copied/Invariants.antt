use Rattle.std.proofs.Common.{◌≡◌, ◌++◌, drop}
use Rattle.nl_cli.proofs.job.copied.Given as goal

-- the names so far, and those that are left
abbrev pub invariant-names : goal.invariant-names
invariant-names l = l.copy ++ drop l.name-index l.all ≡ l.all
