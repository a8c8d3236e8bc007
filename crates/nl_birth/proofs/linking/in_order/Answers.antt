use Rattle.std.proofs.Common.{◌∙◌, ap}
use Rattle.std.proofs.lemmas.List.Filters.{dedup_is}
use Rattle.std.proofs.lemmas.List.Sorted.{Contains-permutation, IsPermutation-sym}
use Rattle.std.proofs.lemmas.Map.Keys.{IsStrictlyIncreasing-dedup}
use Rattle.nl_agents.specs.Members.{is_listed}
use Rattle.nl_birth.proofs.Partners.{in_order_listed}
use Rattle.nl_birth.proofs.linking.in_order.Goals as goal

pub of_vec-requires : goal.of_vec-requires
of_vec-requires c =
    let is = dedup_is _ _ _ c.dedup.ensures.filtered in
    rw is (IsStrictlyIncreasing-dedup _ c.sort_unstable.ensures.sorted)

pub returns : goal.returns
returns c n =
    let moved = c.sort_unstable.ensures.permutation in
    ap (λ ns. is_listed ns n) c.of_vec.ensures
    ∙ in_order_listed c.args.numbers.items c.sort_unstable.new.self.items c.dedup.new.self.items (λ x h. Contains-permutation _ _ x moved h) (λ x h. Contains-permutation _ _ x (IsPermutation-sym _ _ moved) h)
    (dedup_is _ _ _ c.dedup.ensures.filtered) n
