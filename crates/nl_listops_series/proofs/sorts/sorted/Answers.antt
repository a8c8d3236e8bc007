use Rattle.std.proofs.Common.{ap, ◌∙◌, map, filter}
use Rattle.std.proofs.lemmas.List.{take_all}
use Rattle.nl_value.specs.Order.{comes_first}
use Rattle.nl_value.specs.Sorting.{sorted_by}
use Rattle.nl_value.specs.Views.{plain}
use Rattle.nl_listops_series.specs.Sorts.{is_of, sorted_items}
use Rattle.nl_listops_series.proofs.sorts.sorted.Goals as goal

pub returns : goal.returns
returns g c =
    let w = g.L.Life.living c.args.life.now in
    let values = c.as_slice-values.result.now in
    c.in_ok-sort.ensures.ok
    ∙ (ap (sorted_by (comes_first w)) (c.loop-value.invariant ∙ ap (λ vs. filter (is_of w c.sorted_kind-kind.result) (map plain vs)) (take_all c.loop-value.value-index values c.loop-value-test.false))
    ∙ (ap (λ kind. sorted_by (comes_first w) (filter (is_of w kind) (map plain values))) c.sorted_kind-kind.ensures
    ∙ ap (sorted_items w) c.as_slice-values.ensures))
