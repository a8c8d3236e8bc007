use Rattle.std.proofs.Common.{◌*◌, ℤ, pos, ◌*ℤ◌, to_z, w64, sym, ap, ap₂, ◌∙◌, arith}
use Rattle.std.proofs.lemmas.Int.{to_z_pos}
use Rattle.nl_fixed.specs.Numbers.{one}
use Rattle.nl_draw.specs.Stream.{drawn}
use Rattle.nl_birth.specs.declared.looks.Looks.{Looks}
use Rattle.nl_birth.specs.Looks.{drawn_looks, primary}
use Rattle.nl_birth.proofs.Numbers.{primary_is, number_is}
use Rattle.nl_birth.proofs.looks.draw_looks.Goals as goal

pub returns-clause-looks : goal.returns-clause-looks
unfolding drawn_looks
returns-clause-looks c =
    let below = c.draw-2.ensures.below in
    let color = primary_is c.draw.result c.primary_color-color.result c.primary_color-color.ensures ∙ ap primary c.draw.ensures.value in
    let whole = to_z_pos w64 c.draw-2.result (omega (arith, below)) in
    let heading = number_is (to_z w64 c.draw-2.result *ℤ pos one) c.unwrap-heading.result (sym c.whole.ensures ∙ c.unwrap-heading.ensures) in
    let second = c.draw-2.ensures.value ∙ ap (λ s. (drawn 360 s).0) c.draw.ensures.state in
    let make : ℤ → ℤ → Looks = λ x y. record { color = x; heading = y } in
    ap₂ make color (heading ∙ ap (λ z. z *ℤ pos one) whole ∙ ap (λ n. pos (n * one)) second)

pub returns-clause-state : goal.returns-clause-state
unfolding drawn_looks
returns-clause-state c = c.draw-2.ensures.state ∙ ap (λ s. (drawn 360 s).1) c.draw.ensures.state
