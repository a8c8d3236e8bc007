use Rattle.std.proofs.Common.{◌≡◌, ◌==◌, ◌&&◌, ◌∷◌, ◌++◌, [], true, false, cond, ◌∙◌, sym, ap, subst, map, take, filter, length}
use Rattle.std.proofs.lemmas.Bool.{eq-eqb}
use Rattle.nl_value.specs.Measures.{greatest}
use Rattle.nl_value.specs.Plain.{Plain}
use Rattle.nl_value.specs.Views.{plain}
use Rattle.nl_listops_series.specs.Searches.{each_once, times_in, modes_of, most_times}
use Rattle.nl_listops_series.specs.inner.Firsts.{first_place, item_of, AllBelow, times_among}
use Rattle.nl_listops_series.proofs.FirstPlaces.{item_there}
use Rattle.nl_listops_series.proofs.Walks.{mapped_below, all_taken}
use Rattle.nl_listops_series.proofs.Onces.{kept_step, value_at, not_equal, times_by_places, places_below}
use Rattle.nl_listops_series.proofs.repeats.modes.Goals as goal
use Rattle.nl_listops_series.proofs.repeats.modes.Goals.{then-index-place+then-index-most+in_ok-again+in_ok-push, else-index-place, else-index-place-via-then-index-place+else-index-most, else-index-place-via-else-index-place}

pub times-requires : goal.times-requires
times-requires g c =
    let w = g.L.Life.living c.args.life.now in
    let e = c.equality_is_an_equivalence.ensures w in
    let items = map plain c.as_slice-values.result.now in
    subst (λ ns. AllBelow (length ns) ns) (sym (c.deref.ensures.value ∙ c.in_ok-places.ensures)) (places_below w e items)

pub loop-place-preserved : goal.loop-place-preserved
loop-place-preserved g c =
    let w = g.L.Life.living c.args.life.now in
    let e = c.equality_is_an_equivalence.ensures w in
    let values = c.as_slice-values.result.now in
    let items = map plain values in
    let i = c.loop-place.place in
    let h = mapped_below plain values i c.loop-place-test.true in
    let keep = λ (item : Plain). times_in w items item == c.greatest-most.result in
    let so_far = filter keep (each_once w (take i items)) in
    let v = c.index-values-place.result in
    let first = first_place w items (item_of items i) in
    let step = kept_step w e items keep i h in
    let here = item_there values i v c.loop-place-test.true c.index-values-place.is in
    let placed = value_at (first_place w items) items c.in_ok-places.places.items i c.index.result.now h c.in_ok-places.ensures c.index.ensures in
    let times : c.in_ok-times.times.items ≡ map (times_in w items) items =
    c.in_ok-times.ensures ∙ (ap times_among (c.deref.ensures.value ∙ c.in_ok-places.ensures) ∙ times_by_places w e items) in
    elim c.if-index-place.branch [
      | then-index-place+then-index-most+in_ok-again+in_ok-push b ↦
          (let is_first : (first == i) ≡ true = eq-eqb first i (sym placed ∙ b.if-index-place.true) in
          let time = value_at (times_in w items) items c.in_ok-times.times.items i b.index-then-index-place.result.now h times b.index-then-index-place.ensures in
          let kept : keep (item_of items i) ≡ true = eq-eqb (times_in w items (item_of items i)) c.greatest-most.result (sym time ∙ b.if-index-most.true) in
          let passes : ((first == i) && keep (item_of items i)) ≡ true = ap (λ t. t && keep (item_of items i)) is_first ∙ kept in
          b.modes-is
          ∙ (b.in_ok-push.ensures.ok
          ∙ (ap (λ p. c.loop-place.modes ++ p ∷ []) b.in_ok-again.ensures.value
          ∙ (ap (λ s. s ++ plain v ∷ []) c.loop-place.invariant
          ∙ (ap (λ p. so_far ++ p ∷ []) (sym here) ∙ sym (step ∙ ap (λ t. cond t (so_far ++ item_of items i ∷ []) so_far) passes))))))
      | else-index-place b ↦
          (let fails : ((first == i) && keep (item_of items i)) ≡ false = elim b.else-index-place.branch [
            | else-index-place-via-then-index-place+else-index-most d ↦
                (let is_first : (first == i) ≡ true = eq-eqb first i (sym placed ∙ d.if-index-place.true) in
                let time = value_at (times_in w items) items c.in_ok-times.times.items i d.index-then-index-place.result.now h times d.index-then-index-place.ensures in
                ap (λ t. t && keep (item_of items i)) is_first
                ∙ not_equal (times_in w items (item_of items i)) c.greatest-most.result (λ same. d.if-index-most.false (time ∙ same)))
            | else-index-place-via-else-index-place d ↦
                ap (λ t. t && keep (item_of items i)) (not_equal first i (λ at. d.if-index-place.false (placed ∙ at)))
          ] in
          b.modes-is ∙ (c.loop-place.invariant ∙ sym (step ∙ ap (λ t. cond t (so_far ++ item_of items i ∷ []) so_far) fails)))
    ]

pub returns : goal.returns
returns g c =
    let w = g.L.Life.living c.args.life.now in
    let e = c.equality_is_an_equivalence.ensures w in
    let values = c.as_slice-values.result.now in
    let items = map plain values in
    let times : c.in_ok-times.times.items ≡ map (times_in w items) items =
    c.in_ok-times.ensures ∙ (ap times_among (c.deref.ensures.value ∙ c.in_ok-places.ensures) ∙ times_by_places w e items) in
    let most : c.greatest-most.result ≡ most_times w items = c.greatest-most.ensures ∙ ap greatest (c.deref-2.ensures.value ∙ times) in
    c.loop-place.invariant
    ∙ (ap (λ xs. filter (λ item. times_in w items item == c.greatest-most.result) (each_once w xs)) (all_taken plain values c.loop-place.place c.loop-place-test.false)
    ∙ (ap (λ n. filter (λ item. times_in w items item == n) (each_once w items)) most ∙ ap (modes_of w) c.as_slice-values.ensures))
