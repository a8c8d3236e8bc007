-- A text that is turned round from its end on.
use Rattle.std.specs.Prelude.{◌≡◌, ℕ, ◌<◌, ◌≤◌, true, false, length, drop, reverse, slice_range}
use Rattle.std.specs.List.{concat, list_all}
use Rattle.nl_fixed.specs.Nouns.{Bytes}
use Rattle.nl_fixed.specs.Characters.{characters, go_on, goes_on}

-- the characters from the end on are turned round; the bytes from the place up to the end belong to one that begins before
pub record IsTurned (bytes : Bytes) (place end : ℕ) (turned : Bytes) : Type 0 where
  pub ordered : place ≤ end
  pub within : end ≤ length bytes
  pub so_far : turned ≡ concat (reverse (characters (drop end bytes)))
  pub begun : 0 < end → go_on (drop end bytes) ≡ false
  pub pending : list_all goes_on (slice_range bytes place end) ≡ true
  pub whole : place ≡ 0 → end ≡ 0
