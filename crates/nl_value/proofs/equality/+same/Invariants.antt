-- The lists are the same where what is left of them is; each call is on less of the first value.
use Rattle.std.proofs.Common.{◌≡◌, ◌+◌, length}
use Rattle.nl_value.specs.Plain.{plains}
use Rattle.nl_value.specs.inner.Weights.{weight, weights}
use Rattle.nl_value.specs.Views.{plain}
use Rattle.nl_value.proofs.Sameness.{lists_alike, rest_alike}
use Rattle.nl_value.proofs.equality.+same.Given as goal

abbrev pub decreases-same : goal.decreases-same
decreases-same g l = weight (plain l.a.now)

abbrev pub decreases-same_as_items : goal.decreases-same_as_items
decreases-same_as_items g l = 1 + weights (plains l.items.now)

abbrev pub decreases-same_items : goal.decreases-same_items
decreases-same_items g l = weights (plains l.items.now)

abbrev pub invariant-same_items-loop-i : goal.invariant-same_items-loop-i
invariant-same_items-loop-i g l =
    (length l.item-items ≡ length l.others.items)
    × (lists_alike (g.L.Life.living l.life) l.item-items l.others.items ≡ rest_alike (g.L.Life.living l.life) l.item-items l.others.items l.i)
