-- Hints of where the entries of serials stand. A serial has its hint at its last bits, and serials with the same last bits share one.
use Rattle.std.specs.Prelude.{◌≡◌, ◌⊎◌, ◌≤◌, ◌-◌, ◌*◌, ◌^◌, ◌%◌, ℕ, List, length, max, nat_lt, if◌then◌else◌, slice_index_or, slice_set}

-- as many hints as some power of two, or none
abbrev pub AreHints : List ℕ → Type 0
AreHints hints = (length hints ≡ 0) ⊎ ((bits : ℕ) × (length hints ≡ 2 ^ bits))

-- where the entry of a serial may stand, and 0 where there are no hints
abbrev pub hint_of : List ℕ → ℕ → ℕ
hint_of hints serial = slice_index_or hints (serial % length hints) 0

-- the hints with another one for a serial, where its index fits in 32 bits
abbrev pub with_hint : List ℕ → ℕ → ℕ → List ℕ
with_hint hints serial index = if nat_lt index (2 ^ 32) then slice_set hints (serial % length hints) index else hints

-- each serial has the hint that it had
abbrev pub SameHints : (new old : List ℕ) → Type 0
SameHints new old = (serial : ℕ) → hint_of new serial ≡ hint_of old serial

-- no more hints than there were, than 64, or than less than twice as many as there are entries
abbrev pub FewHints : (new old : List ℕ) (entries : ℕ) → Type 0
FewHints new old entries = length new ≤ max (length old) (max 64 (2 * (entries - 1)))
