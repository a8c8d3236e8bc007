-- What a private call that appends to a text answers.
use Rattle.std.specs.Prelude.{◌≡◌, ◌+◌, ◌<◌, ◌≤◌, ◌++◌, length, Result, Err, OnOk}
use Rattle.nl_fixed.specs.Nouns.{Bytes}
use Rattle.nl_value.specs.declared.texts.TextFail.{TextFail}
use Rattle.nl_value.specs.declared.texts.TextFail.TheVariants.{TooLarge}
use Rattle.nl_value.specs.Limits.{most_bytes}

-- at Ok the text `old` has become `new` by `more` and a text that was within the limit still is, and TooLarge comes only where
-- the whole would pass the limit
abbrev pub Appends : Result (Unit {0}) TextFail → Bytes → Bytes → Bytes → Type 0
Appends result old more new =
    OnOk result (new ≡ old ++ more)
    × OnOk result (length old ≤ most_bytes → length new ≤ most_bytes)
    × (result ≡ Err TooLarge → most_bytes < length old + length more)
