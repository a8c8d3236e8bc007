use Rattle.std.proofs.Common.{ℤ}
use Rattle.std.specs.Cmp.{IsStrictWeakOrder, int_cmp_total}
use Rattle.std.proofs.lemmas.List.Sorted.{ranks_by}
use Rattle.nl_listops_series.specs.Statistics.{is_below}
use Rattle.nl_listops_series.proofs.statistics.sorted.Goals as goal

pub returns : goal.returns
returns c =
    let order : IsStrictWeakOrder is_below = ranks_by int_cmp_total (λ (n : ℤ). n) in
    (c.sorting_is_a_function.ensures is_below order).only c.args.numbers.items c.sort.new.self.items c.in_ok-sort.ensures.sorted c.in_ok-sort.ensures.stable
