use Rattle.std.proofs.Common.{◌≡◌, to_z, of_z, w32, arith}
use Rattle.std.proofs.lemmas.Int.{ints}
use Rattle.nl_experiment_sweep.specs.Sweep.{plane_of_world}
use Rattle.nl_experiment_sweep.proofs.Limits.{are_near}
use Rattle.nl_experiment_sweep.proofs.worlds.shape_of.Goals as goal

pub returns-in_err-max_y-clause-within : goal.returns-in_err-max_y-clause-within
returns-in_err-max_y-clause-within c =
    let w = c.args.world in
    let none = c.from_residual-in_err-max_y.ensures in (
      λ some. let gone = rw none at some in cc,
      λ within.
          let near = are_near (plane_of_world w).y within.y in
          let gone = c.in_err-max_y.ensures.near (omega (arith, ints, near.greatest_from)) (omega (arith, ints, near.greatest_to)) in
          cc,
    )

pub returns-clause-within : goal.returns-clause-within
returns-clause-within c =
    let min_x : to_z w32 (of_z w32 c.in_ok-min_x.min_x) ≡ c.args.world.min_x = omega (arith, ints, c.in_ok-min_x.ensures.same) in
    let max_x : to_z w32 (of_z w32 c.in_ok-max_x.max_x) ≡ c.args.world.max_x = omega (arith, ints, c.in_ok-max_x.ensures.same) in
    let min_y : to_z w32 (of_z w32 c.in_ok-min_y.min_y) ≡ c.args.world.min_y = omega (arith, ints, c.in_ok-min_y.ensures.same) in
    let max_y : to_z w32 (of_z w32 c.in_ok-max_y.max_y) ≡ c.args.world.max_y = omega (arith, ints, c.in_ok-max_y.ensures.same) in
    let within = rw (min_x, max_x, min_y, max_y) at c.new.ensures.within in
    within

pub returns-clause-shape : goal.returns-clause-shape
returns-clause-shape c =
    let min_x : to_z w32 (of_z w32 c.in_ok-min_x.min_x) ≡ c.args.world.min_x = omega (arith, ints, c.in_ok-min_x.ensures.same) in
    let max_x : to_z w32 (of_z w32 c.in_ok-max_x.max_x) ≡ c.args.world.max_x = omega (arith, ints, c.in_ok-max_x.ensures.same) in
    let min_y : to_z w32 (of_z w32 c.in_ok-min_y.min_y) ≡ c.args.world.min_y = omega (arith, ints, c.in_ok-min_y.ensures.same) in
    let max_y : to_z w32 (of_z w32 c.in_ok-max_y.max_y) ≡ c.args.world.max_y = omega (arith, ints, c.in_ok-max_y.ensures.same) in
    let shape = rw (min_x, max_x, min_y, max_y) at c.new.ensures.shape in
    shape
