use Rattle.std.proofs.Common.{◌≡◌, ◌==◌, ◌∷◌, ◌++◌, [], ◌∙◌, sym, ap, map, take, get_or, arith}
use Rattle.std.specs.Prelude.{count_by}
use Rattle.std.proofs.lemmas.List.{map_more}
use Rattle.nl_listops_series.proofs.Onces.{any_default}
use Rattle.nl_listops_series.proofs.repeats.times.Goals as goal

pub loop-number-preserved : goal.loop-number-preserved
loop-number-preserved c =
    let numbers = c.args.numbers.now in
    let i = c.loop-number.number-index in
    let count : c.index.result.now ≡ count_by (λ m. m == get_or numbers i 0) numbers =
    c.index.ensures
    ∙ (any_default c.in_ok-counts.counts.items (get_or numbers i 0) c.index.result.now 0 (omega (arith, c.requires i c.loop-number-test.true, c.in_ok-counts.ensures.long))
    ∙ c.in_ok-counts.ensures.counts (get_or numbers i 0) (c.requires i c.loop-number-test.true)) in
    c.in_ok-push.ensures.items
    ∙ (ap (λ times. times ++ c.index.result.now ∷ []) c.loop-number.invariant
    ∙ (ap (λ n. map (λ n. count_by (λ m. m == n) numbers) (take i numbers) ++ n ∷ []) count ∙ sym (map_more (λ n. count_by (λ m. m == n) numbers) numbers i 0 c.loop-number-test.true)))
