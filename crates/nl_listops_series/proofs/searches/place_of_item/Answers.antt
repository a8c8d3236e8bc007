use Rattle.std.proofs.Common.{◌∙◌, sym, ap, subst, map, drop, true, ◌≡◌, ◌+◌, add-zero, add_assoc}
use Rattle.std.specs.List.{list_all, position_or_len}
use Rattle.nl_value.specs.Equality.{same_values}
use Rattle.nl_value.specs.Living.{fits}
use Rattle.nl_value.specs.Views.{plain}
use Rattle.nl_listops_series.specs.Searches.{place_of_item}
use Rattle.nl_listops_series.proofs.Joins.{item_passes}
use Rattle.nl_listops_series.proofs.Walks.{passes_at, fails_at, found_at, found_never, from_start, mapped_below, past_all}
use Rattle.nl_listops_series.proofs.searches.place_of_item.Goals as goal

pub loop-place-init : goal.loop-place-init
loop-place-init g c = from_start (same_values (g.L.Life.living c.args.life.now) (plain c.args.value.now)) (map plain c.as_slice-values.result.now)

pub same-requires-clause-second : goal.same-requires-clause-second
same-requires-clause-second g c =
    let w = g.L.Life.living c.args.life.now in
    item_passes plain (fits w) c.as_slice-values.result.now c.loop-place.place c.index-values-place.result (subst (λ items. list_all (fits w) items ≡ true) (sym c.as_slice-values.ensures) c.requires.items) c.loop-place-test.true c.index-values-place.is

pub returns-then-branch : goal.returns-then-branch
returns-then-branch g c =
    let test = same_values (g.L.Life.living c.args.life.now) (plain c.args.value.now) in
    let values = c.as_slice-values.result.now in
    let here = passes_at plain test values c.loop-place.place c.index-values-place.result c.loop-place-test.true c.index-values-place.is (sym c.in_ok-same.ensures.same ∙ c.if-branch.true) in
    let place : position_or_len test (map plain values) ≡ c.loop-place.place = c.loop-place.invariant ∙ (ap (λ n. c.loop-place.place + n) here ∙ add-zero c.loop-place.place) in
    sym (ap (place_of_item (g.L.Life.living c.args.life.now) (plain c.args.value.now)) (sym c.as_slice-values.ensures)
    ∙ found_at test (map plain values) c.loop-place.place place (mapped_below plain values c.loop-place.place c.loop-place-test.true))

pub loop-place-preserved : goal.loop-place-preserved
loop-place-preserved g c =
    let test = same_values (g.L.Life.living c.args.life.now) (plain c.args.value.now) in
    let values = c.as_slice-values.result.now in
    let next = fails_at plain test values c.loop-place.place c.index-values-place.result c.loop-place-test.true c.index-values-place.is (sym c.in_ok-same.ensures.same ∙ c.if-branch.false) in
    c.loop-place.invariant ∙ (ap (λ n. c.loop-place.place + n) next ∙ sym (add_assoc c.loop-place.place 1 (position_or_len test (map plain (drop (c.loop-place.place + 1) values)))))

pub returns : goal.returns
returns g c =
    let w = g.L.Life.living c.args.life.now in
    let test = same_values w (plain c.args.value.now) in
    let values = c.as_slice-values.result.now in
    sym (ap (place_of_item w (plain c.args.value.now)) (sym c.as_slice-values.ensures)
    ∙ found_never test (map plain values) (past_all plain test values c.loop-place.place c.loop-place-test.false c.loop-place.invariant))
