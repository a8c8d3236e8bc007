use Rattle.std.proofs.Common.{◌≡◌, ◌++◌, drop, map}
use Rattle.nl_experiment_sweep.specs.Varied.{PlainSetting, plain_setting}
use Rattle.nl_experiment.proofs.widgets.set_names.Given as goal

-- the names so far, and those that are left
abbrev pub invariant-settings : goal.invariant-settings
invariant-settings l = l.names ++ map (λ (s : PlainSetting). s.name) (map plain_setting (drop l.setting-index l.list)) ≡ map (λ (s : PlainSetting). s.name) l.settings
