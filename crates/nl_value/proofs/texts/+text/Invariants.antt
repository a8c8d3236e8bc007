-- The items so far are written; each call is on less of the value.
use Rattle.std.proofs.Common.{◌≡◌, ◌+◌, ◌≤◌, ◌++◌, length, take}
use Rattle.nl_value.specs.Plain.{plains}
use Rattle.nl_value.specs.inner.Weights.{weight, weights}
use Rattle.nl_value.specs.Limits.{most_bytes}
use Rattle.nl_value.specs.Views.{plain}
use Rattle.nl_value.proofs.Joined.{spaced}
use Rattle.nl_value.proofs.texts.+text.Given as goal

abbrev pub decreases-put_value : goal.decreases-put_value
decreases-put_value g l = weight (plain l.value.now)

abbrev pub decreases-put_items : goal.decreases-put_items
decreases-put_items g l = 1 + weights (plains l.items.now)

abbrev pub decreases-put_spaced : goal.decreases-put_spaced
decreases-put_spaced g l = weights (plains l.items.now)

abbrev pub invariant-put_spaced-loop-other : goal.invariant-put_spaced-loop-other
invariant-put_spaced-loop-other g l = record {
  written : l.out ≡ l.initial.out ++ spaced (g.L.Life.living l.life) (take l.other-index l.others);
  within : length l.initial.out ≤ most_bytes → length l.out ≤ most_bytes;
}
