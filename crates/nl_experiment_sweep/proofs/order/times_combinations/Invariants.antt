use Rattle.std.proofs.Common.{◌≡◌, ◌*◌, ◌<◌, ◌^◌, length}
use Rattle.nl_experiment_sweep.specs.Varied.{AllHaveValues}
use Rattle.nl_experiment_sweep.specs.Sweep.{combinations}
use Rattle.nl_experiment_sweep.proofs.order.times_combinations.Given as goal

-- the product with what is left is that of the whole
abbrev pub invariant-varied : goal.invariant-varied
invariant-varied l = (l.product * combinations l.left ≡ l.fn.times * combinations l.fn.varies) × AllHaveValues l.left × (l.product < 2 ^ 64)

abbrev pub decreases-varied : goal.decreases-varied
decreases-varied l = length l.left
