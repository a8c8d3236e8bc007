use Rattle.std.proofs.Common.{◌≡◌, length, ap, sym, subst, ◌∙◌, arith}
use Rattle.nl_check.specs.inner.Calls.{reversed, nobody}
use Rattle.nl_check.specs.inner.Reach.{ArePlaces}
use Rattle.nl_check.proofs.SampleModel.{as_many, callers_fit}
use Rattle.nl_check.proofs.tests.long.Goals as goal

pub settle-requires-clause-many : goal.settle-requires-clause-many
settle-requires-clause-many c =
    let made = c.as_slice-2.ensures.value ∙ c.in_ok-callers.ensures in
    let count : c.args.count ≡ length c.loop-place.own.items = omega (arith, c.loop-place.invariant.many) in
    ap length made ∙ as_many c.args.count c.as_slice.result.now ∙ count

pub settle-requires-clause-places : goal.settle-requires-clause-places
settle-requires-clause-places c =
    let made = c.as_slice-2.ensures.value ∙ c.in_ok-callers.ensures ∙ ap (reversed (nobody c.args.count)) c.as_slice.ensures.value in
    let count : c.args.count ≡ length c.loop-place.own.items = omega (arith, c.loop-place.invariant.many) in
    subst (λ n. ArePlaces n c.as_slice-2.result.now) count (subst (ArePlaces c.args.count) (sym made) (callers_fit c.args.count c.loop-place.calls.items c.loop-place.invariant.inside))
