use Rattle.std.proofs.Common.{◌≡◌, ◌==◌, ◌∷◌, ◌++◌, [], true, false, cond, ◌∙◌, sym, ap, map, take}
use Rattle.std.proofs.lemmas.Bool.{eq-eqb}
use Rattle.nl_value.specs.Views.{plain}
use Rattle.nl_listops_series.specs.Searches.{each_once}
use Rattle.nl_listops_series.specs.inner.Firsts.{first_place, item_of}
use Rattle.nl_listops_series.proofs.FirstPlaces.{item_there}
use Rattle.nl_listops_series.proofs.Walks.{mapped_below}
use Rattle.nl_listops_series.proofs.Onces.{once_step, value_at, not_equal}
use Rattle.nl_listops_series.proofs.repeats.each_once.Goals as goal
use Rattle.nl_listops_series.proofs.repeats.each_once.Goals.{then-index-place+in_ok-again+in_ok-push, else-index-place}

pub loop-place-preserved : goal.loop-place-preserved
loop-place-preserved g c =
    let w = g.L.Life.living c.args.life.now in
    let values = c.as_slice-values.result.now in
    let items = map plain values in
    let i = c.loop-place.place in
    let once = each_once w (take i items) in
    let v = c.index-values-place.result in
    let step = once_step w (c.equality_is_an_equivalence.ensures w) items i (mapped_below plain values i c.loop-place-test.true) in
    let here = item_there values i v c.loop-place-test.true c.index-values-place.is in
    let placed = value_at (first_place w items) items c.in_ok-places.places.items i c.index.result.now (mapped_below plain values i c.loop-place-test.true) c.in_ok-places.ensures c.index.ensures in
    elim c.if-index-place.branch [
      | then-index-place+in_ok-again+in_ok-push b ↦
          (let first : (first_place w items (item_of items i) == i) ≡ true = eq-eqb (first_place w items (item_of items i)) i (sym placed ∙ b.if-index-place.true) in
          b.once-is
          ∙ (b.in_ok-push.ensures.ok
          ∙ (ap (λ p. c.loop-place.once ++ p ∷ []) b.in_ok-again.ensures.value
          ∙ (ap (λ s. s ++ plain v ∷ []) c.loop-place.invariant
          ∙ (ap (λ p. once ++ p ∷ []) (sym here) ∙ sym (step ∙ ap (λ t. cond t (once ++ item_of items i ∷ []) once) first))))))
      | else-index-place b ↦
          (let later : (first_place w items (item_of items i) == i) ≡ false = not_equal (first_place w items (item_of items i)) i (λ at. b.if-index-place.false (placed ∙ at)) in
          b.once-is ∙ (c.loop-place.invariant ∙ sym (step ∙ ap (λ t. cond t (once ++ item_of items i ∷ []) once) later)))
    ]
