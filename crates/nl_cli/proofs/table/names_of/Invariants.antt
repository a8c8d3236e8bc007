use Rattle.std.proofs.Common.{◌≡◌, ◌++◌, drop, map}
use Rattle.nl_experiment_sweep.specs.declared.varied.Vary.{Vary}
use Rattle.nl_cli.proofs.table.names_of.Given as goal

-- the names so far, and those that are left
abbrev pub invariant-varied : goal.invariant-varied
invariant-varied l = l.names ++ map (λ (v : Vary). v.name) (drop l.vary-index l.varied) ≡ map (λ (v : Vary). v.name) l.varied
