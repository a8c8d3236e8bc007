-- Keys in few bytes.
--
-- A key that may be kept is less than 2 ^ 32 - 1. It is kept as one more than it, and 0 stands for no key.
use Rattle.std.specs.Prelude.{ℕ, ◌+◌, ◌-◌, ◌<◌, ◌^◌, ◌==◌, Option, Some, None, IsSome, if◌then◌else◌}
use Rattle.nl_store_records.specs.declared.record.Place.{Place}

-- so many keys may be kept
abbrev pub small_keys : ℕ
small_keys = 2 ^ 32 - 1

-- the key that a number is kept for
abbrev pub key_in : ℕ → Option ℕ
key_in number = if number == 0 then None else Some (number - 1)

-- the number that a key is kept as
abbrev pub number_of : Option ℕ → ℕ
number_of None = 0
number_of (Some key) = key + 1

-- there is no key, or it may be kept
abbrev pub IsSmall : Option ℕ → Type 0
IsSmall None = Unit {0}
IsSmall (Some key) = key < small_keys

-- both keys may be kept
abbrev pub IsPackable : Place → Type 0
IsPackable place = IsSmall place.previous × IsSmall place.next

-- each key that has something may be kept
abbrev pub AreSmall : {T : Type 0} → (ℕ → Option T) → Type 0
AreSmall at = (key : ℕ) → IsSome (at key) → key < small_keys
