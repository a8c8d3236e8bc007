use Rattle.std.proofs.Common.{◌≡◌, ◌++◌, ◌≤◌, length}
use Rattle.nl_experiment_sweep.specs.Varied.{AllHaveValues}
use Rattle.nl_experiment_sweep.specs.Sweep.{combinations, most_runs, settings_in}
use Rattle.nl_experiment_sweep.proofs.run_settings.settings_at.Given as goal

-- the settings so far, with those of the variables that are left, are all
abbrev pub invariant-varied : goal.invariant-varied
invariant-varied l =
    (l.settings ++ settings_in l.fn.combination l.left ≡ settings_in l.fn.combination l.fn.varies)
    × (l.others ≡ combinations l.left) × (l.others ≤ most_runs) × AllHaveValues l.left

abbrev pub decreases-varied : goal.decreases-varied
decreases-varied l = length l.left
