use Rattle.std.proofs.Common.{◌≡◌}
use Rattle.nl_experiment_sweep.specs.Sweep.{plane_of_run, plane_of_world, settings_of}
use Rattle.nl_experiment_sweep.proofs.worlds.shape.Goals as goal

pub returns-clause-within : goal.returns-clause-within
unfolding settings_of plane_of_run
returns-clause-within c =
    let same : plane_of_world c.world_at-world.result ≡ plane_of_run c.args.world c.args.order c.args.varies.now c.args.run =
    rw (c.world_at-world.ensures, c.combination.ensures.value, c.as_slice-varies.ensures) in
    let within = rw (c.world_at-world.ensures, c.combination.ensures.value, c.as_slice-varies.ensures) at c.shape_of.ensures.within in
    within
