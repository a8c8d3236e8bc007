use Rattle.std.proofs.Common.{◌∙◌, ◌++◌, ◌∷◌, [], sym, ap, map, take}
use Rattle.std.proofs.lemmas.List.{append-nil}
use Rattle.std.specs.List.{cons_option}
use Rattle.nl_value.specs.Views.{plain}
use Rattle.nl_listops_series.specs.Statistics.{numbers_among}
use Rattle.nl_listops_series.proofs.Numbers.{among_more}
use Rattle.nl_listops_series.proofs.statistics.numbers_among.Goals as goal
use Rattle.nl_listops_series.proofs.statistics.numbers_among.Goals.{in-Some+in_ok-push, in_default}

pub loop-value-preserved : goal.loop-value-preserved
loop-value-preserved c =
    let values = c.as_slice-values.result.now in
    let before = numbers_among (map plain (take c.loop-value.value-index values)) in
    let more = among_more values c.loop-value.value-index c.value-item.result c.loop-value-test.true c.value-item.is in
    elim c.match-number_of_item.branch [
      | in-Some+in_ok-push v ↦
          ap (λ ns. ns.items) v.numbers-is
          ∙ (v.in_ok-push.ensures.items ∙ (ap (λ ns. ns ++ v.in-Some.number ∷ []) c.loop-value.invariant ∙ (ap (λ o. before ++ cons_option o []) v.in-Some.ensures ∙ sym more)))
      | in_default v ↦
          ap (λ ns. ns.items) v.numbers-is
          ∙ (c.loop-value.invariant ∙ (sym (append-nil before) ∙ (ap (λ o. before ++ cons_option o []) (sym v.in_default.is ∙ c.number_of_item.ensures) ∙ sym more)))
    ]
