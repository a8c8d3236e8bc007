use Rattle.std.proofs.Common.{◌≡◌, ◌-◌, ◌%◌, arith, sym, ◌∙◌, to_z, of_z}
use Rattle.std.proofs.lemmas.Int.{ints}
use Rattle.std.specs.Prelude.{◌+ℤ◌}
use Rattle.std.specs.Int.{w64, w128}
use Rattle.nl_fixed.specs.Sines.{turn_sine}
use Rattle.nl_fixed.proofs.Turns.{reach-is}
use Rattle.nl_fixed.proofs.sine.reach_at.Goals as goal

pub returns : goal.returns
returns c =
    let sum : to_z w128 (of_z w128 (to_z w128 (of_z w128 c.scaled.result) +ℤ to_z w128 (of_z w128 c.scaled-2.result))) ≡ c.scaled.result +ℤ c.scaled-2.result = omega (arith, ints) in
    let sine : to_z w64 (of_z w64 c.turn_sine_at.result) ≡ turn_sine c.args.degree = omega (arith, ints) in
    let cosine : to_z w64 (of_z w64 c.turn_sine_at-2.result) ≡ turn_sine ((450 - c.args.degree) % 360) = omega (arith, ints) in
    sum ∙ rw (c.scaled.ensures.value, c.scaled-2.ensures.value, sine, cosine) (sym (reach-is c.args.x c.args.y c.args.degree c.requires))
