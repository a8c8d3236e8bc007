use Rattle.std.proofs.Common.{List, ℕ, ap, sym, subst, ◌∙◌}
use Rattle.std.specs.List.Sorted.{IsStrictlyIncreasing}
use Rattle.std.proofs.lemmas.List.Filters.{dedup_is}
use Rattle.std.proofs.lemmas.Map.Keys.{IsStrictlyIncreasing-dedup}
use Rattle.nl_agents.specs.Members.{is_listed}
use Rattle.nl_agents.proofs.Ascending.{same_once}
use Rattle.nl_agentset_query.proofs.orders.in_order.Goals as goal

pub of_vec-requires : goal.of_vec-requires
of_vec-requires c =
    let is = dedup_is _ _ _ c.dedup.ensures.filtered in
    rw is (IsStrictlyIncreasing-dedup _ c.sort_unstable.ensures.sorted)

pub returns-clause-same : goal.returns-clause-same
returns-clause-same c = λ z.
    ap (λ l. is_listed l z) c.of_vec.ensures ∙ same_once _ _ _ c.sort_unstable.ensures.permutation (dedup_is _ _ _ c.dedup.ensures.filtered) z

pub returns-clause-ascending : goal.returns-clause-ascending
returns-clause-ascending c =
    let Ascends : List ℕ → Type 0 = λ l. IsStrictlyIncreasing l in
    subst Ascends (sym (c.of_vec.ensures ∙ dedup_is _ _ _ c.dedup.ensures.filtered)) (IsStrictlyIncreasing-dedup _ c.sort_unstable.ensures.sorted)
