-- When records, and the borders of chains, hold lists of keys.
--
-- Chains of one kind are numbered. The border of each is its first and its last key; where the borders are kept is left open.
use Rattle.std.specs.Prelude.{◌≡◌, ℕ, ◌==◌, List, Option, Some, None, is_some, IsSome, ◌&&◌, ◌||◌, Bool, true, false, if◌then◌else◌}
use Rattle.std.specs.Option.{option_map}
use Rattle.nl_store_lists.specs.Chained.{IsThreaded}
use Rattle.nl_store_records.specs.Records.{record_place, with_place, no_place}
use Rattle.nl_store_records.specs.declared.record.Record.{Record}
use Rattle.nl_store_records.specs.declared.places.Border.{Border}

-- an empty chain
abbrev pub no_keys : Border
no_keys = record { first = None; last = None }

abbrev pub next_of : ℕ → Option Record → Option ℕ
next_of chain None = None
next_of chain (Some r) = (record_place chain r).next

abbrev pub previous_of : ℕ → Option Record → Option ℕ
previous_of chain None = None
previous_of chain (Some r) = (record_place chain r).previous

-- what stands after a place of a numbered chain: after its border the first key
abbrev pub after : ℕ → (ℕ → Border) → (ℕ → Option Record) → ℕ → Option ℕ → Option ℕ
after chain borders at number None = (borders number).first
after chain borders at number (Some key) = next_of chain (at key)

-- what stands before a place of a numbered chain: before its border the last key
abbrev pub before : ℕ → (ℕ → Border) → (ℕ → Option Record) → ℕ → Option ℕ → Option ℕ
before chain borders at number None = (borders number).last
before chain borders at number (Some key) = previous_of chain (at key)

-- the chains of a kind hold these lists, and each key in them has a record
pub record IsFiled (chain : ℕ) (borders : ℕ → Border) (at : ℕ → Option Record) (home : ℕ → Option ℕ) (lists : ℕ → List ℕ) : Type 0 where
  pub threaded : IsThreaded home (after chain borders at) (before chain borders at) lists
  pub held : (key number : ℕ) → home key ≡ Some number → IsSome (at key)

-- both are the border, or the same key
abbrev pub same_place : Option ℕ → Option ℕ → Bool
same_place None None = true
same_place None (Some _) = false
same_place (Some _) None = false
same_place (Some j) (Some k) = j == k

-- one place of a numbered chain leads elsewhere, and every other one where it led before
abbrev pub Redirects : ℕ → Option ℕ → Option ℕ → (old new : ℕ → Option ℕ → Option ℕ) → Type 0
Redirects number place to old new =
    (n : ℕ) (a : Option ℕ) → new n a ≡ (if same_place a place && (is_some a || (n == number)) then to else old n a)

-- every place leads where it led before
abbrev pub Stays : (old new : ℕ → Option ℕ → Option ℕ) → Type 0
Stays old new = (n : ℕ) (a : Option ℕ) → new n a ≡ old n a

-- the record apart from its place in chains of the kind
abbrev pub apart_from : ℕ → Option Record → Option Record
apart_from chain r = option_map (with_place chain no_place) r

-- the same keys are held, and their records differ at most in their places in chains of the kind
abbrev pub KeepsOthers : ℕ → (old new : ℕ → Option Record) → Type 0
KeepsOthers chain old new = (key : ℕ) → apart_from chain (new key) ≡ apart_from chain (old key)

-- the place is the border, or a key that has a record
abbrev pub IsHeld : (ℕ → Option Record) → Option ℕ → Type 0
IsHeld at None = Unit {0}
IsHeld at (Some key) = IsSome (at key)
