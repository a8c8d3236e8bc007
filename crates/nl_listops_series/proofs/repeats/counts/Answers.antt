use Rattle.std.proofs.Common.{◌≡◌, ℕ, ◌<◌, ◌+◌, ◌==◌, ◌∙◌, length, set, take, get_or, arith}
use Rattle.std.specs.Prelude.{count_by}
use Rattle.std.proofs.lemmas.List.{length-set}
use Rattle.nl_listops_series.proofs.Onces.{counted_more, counted_few, any_default}
use Rattle.nl_listops_series.proofs.repeats.counts.Goals as goal

pub loop-number-preserved : goal.loop-number-preserved
loop-number-preserved c =
    let numbers = c.args.numbers.now in
    let i = c.loop-number.number-index in
    let counts = c.loop-number.counts.items in
    let inside : get_or numbers i 0 < length counts = omega (arith, c.requires i c.loop-number-test.true, c.loop-number.invariant.long) in
    let more : (n : ℕ) → n < length numbers → get_or (set counts (get_or numbers i 0) (c.index_mut.result.now + 1)) n 0 ≡ count_by (λ m. m == n) (take (i + 1) numbers) = λ n h. counted_more numbers counts i n c.index_mut.result.now c.loop-number-test.true inside (c.index_mut.ensures.value ∙ any_default counts (get_or numbers i 0) c.index_mut.result.now 0 inside) (c.loop-number.invariant.so_far n h) in
    record {
      long = length-set counts (get_or numbers i 0) (c.index_mut.result.now + 1) ∙ c.loop-number.invariant.long;
      few = λ n h. counted_few numbers (i + 1) n _ (more n h);
      so_far = more;
    }
