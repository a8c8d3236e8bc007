use Rattle.std.proofs.Common.{◌≡◌, ◌≤◌, length}
use Rattle.nl_experiment_sweep.specs.Varied.{AllHaveValues, number_among}
use Rattle.nl_experiment_sweep.specs.Sweep.{combinations, most_runs, settings_in}
use Rattle.nl_experiment_sweep.proofs.run_settings.number_at.Given as goal

-- no variable so far has the name
abbrev pub invariant-varied : goal.invariant-varied
invariant-varied l =
    (number_among l.fn.name (settings_in l.fn.combination l.left) ≡ number_among l.fn.name (settings_in l.fn.combination l.fn.varies))
    × (l.others ≡ combinations l.left) × (l.others ≤ most_runs) × AllHaveValues l.left

abbrev pub decreases-varied : goal.decreases-varied
decreases-varied l = length l.left
