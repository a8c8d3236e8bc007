use Rattle.std.proofs.Common.{◌≡◌, ◌+◌, ◌∷◌, ◌++◌, [], ◌∙◌, sym, ap, subst, map, take}
use Rattle.std.specs.Ordering.{nat_cmp}
use Rattle.std.specs.BTreeMap.{get}
use Rattle.std.proofs.lemmas.List.{map_more}
use Rattle.nl_value.specs.Plain.{PlainNobody}
use Rattle.nl_value.specs.Equality.{settled}
use Rattle.nl_value.specs.Views.{plain}
use Rattle.nl_listops_series.specs.inner.Digests.{digest_of}
use Rattle.nl_listops_series.specs.inner.Firsts.{first_place, digest_at, IsLatest, IsChained}
use Rattle.nl_listops_series.proofs.Walks.{mapped_below}
use Rattle.nl_listops_series.proofs.FirstPlaces.{item_there, chained_more, latest_put, latest_left}
use Rattle.nl_listops_series.proofs.firsts.first_places.Goals as goal
use Rattle.nl_listops_series.proofs.firsts.first_places.Goals.{then-first-place+in_ok-insert, else-first-place}

pub first_place-requires-clause-from : goal.first_place-requires-clause-from
first_place-requires-clause-from g c =
    let w = g.L.Life.living c.args.life.now in
    let values = c.args.values.now in
    let items = map plain values in
    let i = c.loop-place.place in
    let digest : c.digest_of-digest.result ≡ digest_at w items i =
    c.digest_of-digest.ensures ∙ ap (λ p. digest_of (settled w p)) (sym (item_there values i c.index-values-place.result c.loop-place-test.true c.index-values-place.is)) in
    subst (IsLatest w items (digest_at w items i) i) (sym (c.copied-before.ensures ∙ c.get.ensures.value))
    (subst (λ d. IsLatest w items d i (get nat_cmp c.loop-place.latest c.digest_of-digest.result)) digest (c.loop-place.invariant.latest c.digest_of-digest.result))

pub loop-place-preserved : goal.loop-place-preserved
loop-place-preserved g c =
    let w = g.L.Life.living c.args.life.now in
    let values = c.args.values.now in
    let items = map plain values in
    let i = c.loop-place.place in
    let e = c.equality_is_an_equivalence.ensures w in
    let h = mapped_below plain values i c.loop-place-test.true in
    let digest : c.digest_of-digest.result ≡ digest_at w items i =
    c.digest_of-digest.ensures ∙ ap (λ p. digest_of (settled w p)) (sym (item_there values i c.index-values-place.result c.loop-place-test.true c.index-values-place.is)) in
    let last = subst (IsLatest w items (digest_at w items i) i) (sym (c.copied-before.ensures ∙ c.get.ensures.value))
    (subst (λ d. IsLatest w items d i (get nat_cmp c.loop-place.latest c.digest_of-digest.result)) digest (c.loop-place.invariant.latest c.digest_of-digest.result)) in
    record {
      so_far =
          c.in_ok-push.ensures.items
          ∙ (ap (λ places. places ++ c.in_ok-first.first ∷ []) c.loop-place.invariant.so_far
          ∙ (ap (λ n. map (first_place w items) (take i items) ++ n ∷ []) c.in_ok-first.ensures ∙ sym (map_more (first_place w items) items i PlainNobody h)));
      chained = subst (IsChained w items (i + 1)) (sym c.in_ok-push-2.ensures.items) (chained_more w e items i c.loop-place.earlier.items c.copied-before.result c.loop-place.invariant.chained last);
      latest = elim c.if-first-place.branch [
        | then-first-place+in_ok-insert b ↦
            (λ key. subst (λ m. IsLatest w items key (i + 1) (get nat_cmp m key)) (sym b.latest-is)
            (latest_put w e items i c.digest_of-digest.result (get nat_cmp c.loop-place.latest) (get nat_cmp b.insert.new.self) (sym c.in_ok-first.ensures ∙ b.if-first-place.true) digest
            b.in_ok-insert.ensures.updates.0 c.loop-place.invariant.latest key))
        | else-first-place b ↦
            (λ key. subst (λ m. IsLatest w items key (i + 1) (get nat_cmp m key)) (sym b.latest-is)
            (latest_left w e items i c.in_ok-first.first (get nat_cmp c.loop-place.latest) c.in_ok-first.ensures b.if-first-place.false c.loop-place.invariant.latest key))
      ];
    }
