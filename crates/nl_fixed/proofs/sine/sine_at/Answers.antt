use Rattle.std.proofs.Common.{◌≡◌, arith, ap, ◌∙◌, to_z, of_z}
use Rattle.std.proofs.lemmas.Int.{ints}
use Rattle.std.specs.Int.{w64}
use Rattle.nl_fixed.specs.Sines.{sine_of, turn_sine, in_turn, nearest_degree}
use Rattle.nl_fixed.proofs.sine.sine_at.Goals as goal

pub returns-clause-value : goal.returns-clause-value
unfolding sine_of
returns-clause-value c =
    let exact : to_z w64 (of_z w64 c.turn_sine_at.result) ≡ c.turn_sine_at.result = omega (arith, ints) in
    let angle : to_z w64 (of_z w64 c.args.angle) ≡ c.args.angle = omega (arith, ints) in
    exact ∙ c.turn_sine_at.ensures.value ∙ ap turn_sine (c.degree_of.ensures.value ∙ ap (λ a. in_turn (nearest_degree a)) angle)
