use Rattle.std.proofs.Common.{subst, sym, ap, ◌∙◌, arith, inl, inr, ◌≡◌, ◌⊎◌, ◌-◌, true, slice_index}
use Rattle.nl_fixed.specs.Characters.{begins}
use Rattle.nl_listops_series.specs.inner.Turning.{IsTurned}
use Rattle.nl_listops_series.specs.Texts.{text_reversed}
use Rattle.nl_listops_series.proofs.Turns.{turned_none, turned_past, turned_more, turned_whole}
use Rattle.nl_listops_series.proofs.texts.text_reversed.Goals as goal
use Rattle.nl_listops_series.proofs.texts.text_reversed.Goals.{then-place-eq0-via-then-place-eq0, then-place-eq0-via-else-place-eq0+then-begins}

pub loop-place-init : goal.loop-place-init
loop-place-init c =
    let bytes = c.as_bytes-bytes.result.now in
    subst (IsTurned bytes _ _) (sym (c.of_vec-turned.ensures ∙ c.new.ensures.items)) (turned_none bytes)

pub loop-place-preserved-in-loop-place : goal.loop-place-preserved-in-loop-place
loop-place-preserved-in-loop-place c =
    let bytes = c.as_bytes-bytes.result.now in
    let new : (c.loop-place.place - 1 ≡ 0) ⊎ (begins (slice_index bytes (c.loop-place.place - 1)) ≡ true) =
    elim c.then-place-eq0.branch [
      | then-place-eq0-via-then-place-eq0 w ↦ inl w.if-place-eq0.true
      | then-place-eq0-via-else-place-eq0+then-begins w ↦ inr (sym w.if-begins.ensures)
    ] in
    subst (IsTurned bytes _ _) (sym c.in_ok-append.ensures.ok) (turned_more bytes c.loop-place.turned c.loop-place.place c.loop-place.end c.loop-place.invariant c.loop-place-test.true new)

pub loop-place-preserved : goal.loop-place-preserved
loop-place-preserved c =
    turned_past c.as_bytes-bytes.result.now c.loop-place.turned c.loop-place.place c.loop-place.end c.loop-place.invariant c.loop-place-test.true c.if-place-eq0.false
    (sym c.if-begins.ensures)

pub returns : goal.returns
returns c =
    let bytes = c.as_bytes-bytes.result.now in
    let none : c.loop-place.place ≡ 0 = omega arith in
    turned_whole bytes c.loop-place.turned c.loop-place.end (subst (λ p. IsTurned bytes p c.loop-place.end c.loop-place.turned) none c.loop-place.invariant) ∙ ap text_reversed c.as_bytes-bytes.ensures
