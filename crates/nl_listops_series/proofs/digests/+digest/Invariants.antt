use Rattle.std.proofs.Common.{◌≡◌, map, drop}
use Rattle.nl_value.specs.Equality.{all_settled}
use Rattle.nl_value.specs.Plain.{plains}
use Rattle.nl_value.specs.Views.{plain}
use Rattle.nl_value.specs.inner.Weights.{weight, list_weight}
use Rattle.nl_listops_series.specs.inner.Digests.{digests_of}
use Rattle.nl_listops_series.proofs.digests.+digest.Given as goal

abbrev pub decreases-stirred_items : goal.decreases-stirred_items
decreases-stirred_items g l = list_weight l.items.now

abbrev pub decreases-digest_of : goal.decreases-digest_of
decreases-digest_of g l = weight (plain l.value.now)

-- the digest so far with the items that are left is that with all items
abbrev pub invariant-stirred_items-loop-value : goal.invariant-stirred_items-loop-value
invariant-stirred_items-loop-value g l =
    let w = g.L.Life.living l.life in
    digests_of l.all (all_settled w (plains (map plain (drop l.value-index l.values)))) ≡ digests_of l.fn.digest (all_settled w (plains (map plain l.values)))
