-- What a private call that appends a text answers.
use Rattle.std.specs.Prelude.{◌≡◌, ◌≢◌, ◌+◌, ◌<◌, ◌≤◌, ◌++◌, length, OnOk, IfErr}
use Rattle.nl_fixed.specs.Nouns.{Bytes}
use Rattle.nl_value.specs.Limits.{most_bytes}
use Rattle.nl_listops_series.specs.declared.fail.ListFail.TheVariants.{TooLarge, NoMemory}
use Rattle.nl_listops_series.specs.Outcomes.{ListOutcome}

-- at Ok the text `old` has become `new` by `more`, within the limit; an error but want of memory is TooLarge, and the whole would
-- pass the limit
abbrev pub PutsText : ListOutcome (Unit {0}) → Bytes → Bytes → Bytes → Type 0
PutsText result old more new =
    OnOk result (new ≡ old ++ more)
    × OnOk result (length new ≤ most_bytes)
    × IfErr result (λ fail. fail ≢ NoMemory → (fail ≡ TooLarge) × (most_bytes < length old + length more))
