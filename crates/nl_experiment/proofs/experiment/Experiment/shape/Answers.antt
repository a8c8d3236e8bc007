use Rattle.std.proofs.Common.{sym, subst, refl, false}
use Rattle.std.proofs.lemmas.Bool.{both_ways}
use Rattle.nl_grid.specs.Geometry.{IsWithinLimits}
use Rattle.nl_experiment_sweep.specs.Sweep.{IsRun, plane_of_run}
use Rattle.nl_experiment.specs.Plan.{order_of, world_of}
use Rattle.nl_experiment.proofs.Worlds.{has_world}
use Rattle.nl_experiment.proofs.experiment.Experiment.shape.Goals as goal

pub unreachable-requires : goal.unreachable-requires
unreachable-requires c =
    let fields = c.self.inside.fields in
    let is : IsRun (order_of fields) fields.vary c.args.run = subst (λ f. IsRun (order_of f) f.vary c.args.run) (sym c.self.view_is) c.requires in
    let limits = has_world (world_of fields) (order_of fields) fields.vary c.args.run c.self.invariant.0.worlds is in
    let limits' : IsWithinLimits (plane_of_run c.world_of.result c.order_of.result fields.vary c.args.run) = rw (c.world_of.ensures, c.order_of.ensures) limits in
    both_ways false refl (c.in-None.ensures.within.1 limits')
