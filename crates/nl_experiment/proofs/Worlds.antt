-- Each run of an experiment has a world.
use Rattle.std.proofs.Common.{◌≡◌, ℕ, true, arith}
use Rattle.nl_grid.specs.Geometry.{IsWithinLimits}
use Rattle.nl_experiment_sweep.specs.Sweep.{IsRun, all_have_worlds, is_world, plane_of_run, runs_of}
use Rattle.nl_experiment_sweep.specs.declared.order.Order.{Order}
use Rattle.nl_experiment_sweep.specs.declared.varied.Vary.{Vary}
use Rattle.nl_experiment_sweep.specs.declared.worlds.World.{World}
use Rattle.nl_experiment_sweep.proofs.EachWorld.{range_of_all, tested_world}
use Rattle.std.specs.Prelude.{List}

pub has_world : (w : World) (order : Order) (vs : List Vary) (run : ℕ) → all_have_worlds w order vs ≡ true → IsRun order vs run → IsWithinLimits (plane_of_run w order vs run)
unfolding all_have_worlds
has_world w order vs run all is =
    tested_world (plane_of_run w order vs run) (range_of_all (λ k. is_world (plane_of_run w order vs k)) 1 (runs_of order vs) all run is.from (omega (arith, is.to)))
