-- The settings so far, and those that are left, are all.
use Rattle.std.proofs.Common.{◌≡◌, ◌++◌, drop, map}
use Rattle.nl_experiment_sweep.specs.Varied.{plain_setting}
use Rattle.nl_run.proofs.plan.copied.Given as goal

abbrev pub invariant-settings : goal.invariant-settings
invariant-settings l = l.again ++ map plain_setting (drop l.setting-index l.list) ≡ l.settings
