use Rattle.std.proofs.Common.{◌≡◌, arith, to_z, of_z}
use Rattle.std.proofs.lemmas.Int.{ints}
use Rattle.std.specs.Int.{w128}
use Rattle.nl_fixed.specs.Sines.{reach}
use Rattle.nl_fixed.proofs.Directions.{step_new, step_kept}
use Rattle.nl_fixed.proofs.sine.direction_of.Goals as goal
use Rattle.nl_fixed.proofs.sine.direction_of.Goals.{then-farthest-here, else-farthest-here}

pub loop-degree-preserved : goal.loop-degree-preserved
loop-degree-preserved c =
    let here : to_z w128 (of_z w128 c.reach_at-here.result) ≡ reach c.args.x c.args.y c.loop-degree.degree = omega (arith, ints) in
    elim c.if-farthest-here.branch [
      | then-farthest-here w ↦
          record {
            best = rw w.best-is (step_new _ _ _ _ _ _ c.loop-degree.invariant.best c.loop-degree.invariant.farthest here w.if-farthest-here.true);
            farthest = rw (w.best-is, w.farthest-is) here;
          }
      | else-farthest-here w ↦
          record {
            best = rw w.best-is (step_kept _ _ _ _ _ _ c.loop-degree.invariant.best c.loop-degree.invariant.farthest here w.if-farthest-here.false);
            farthest = rw (w.best-is, w.farthest-is) c.loop-degree.invariant.farthest;
          }
    ]
