use Rattle.std.proofs.Common.{◌≡◌, ◌++◌, drop, map}
use Rattle.nl_experiment.proofs.widgets.with_varied.Given as goal

-- the names so far, and those that are left
abbrev pub invariant-varied : goal.invariant-varied
invariant-varied l = l.names ++ map (λ v. v.name) (drop l.vary-index l.list) ≡ l.fn.set ++ map (λ v. v.name) l.list
