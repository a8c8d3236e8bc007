use Rattle.std.proofs.Common.{rules, of_calls}
use Rattle.std.proofs.lemmas.Cmp.{nat_list_cmp_total}
use Rattle.std.proofs.lemmas.Fn.{always_returns_same}
use Rattle.std.proofs.lemmas.List.MinMax.{ranks_by}
use Rattle.nl_tree.specs.declared.index.NamedWord.{NamedWord}
use Rattle.nl_tree.specs.Index.{stands_before}
use Rattle.nl_tree.proofs.index.sorted.Goals as goal

-- the closure compares the names of two rows
pub returns-clause-sorted : goal.returns-clause-sorted
returns-clause-sorted c =
    c.sort_unstable_by.ensures.sorted stands_before (ranks_by nat_list_cmp_total (λ (r : NamedWord). r.name)) (always_returns_same _ _ _ (λ a r f called. search (rules, of_calls)))
