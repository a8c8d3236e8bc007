-- Where the chains of a turtle's links begin and end.
use Rattle.std.specs.Prelude.{◌≡◌, ℕ, ◌==◌, List, Option, Some, None, nat_eq, is_some, if◌then◌else◌}
use Rattle.indexmap.specs.IndexMap.{get, index_map_len}
use Rattle.nl_store_records.specs.Filed.{no_keys, IsFiled}
use Rattle.nl_store_records.specs.declared.places.Border.{Border}
use Rattle.nl_store_records.specs.declared.record.Record.{Record}
use Rattle.nl_links.specs.declared.sides.Side.{Side}
use Rattle.nl_links.specs.declared.sides.Side.TheVariants.{First, Second}
use Rattle.nl_links.specs.declared.sides.Sides.{Sides}
use Rattle.nl_links.specs.declared.ends.Ends.{Ends}

abbrev pub other_side : Side → Side
other_side First = Second
other_side Second = First

-- the kind of the chains
abbrev pub kind_of : Side → ℕ
kind_of First = 3
kind_of Second = 4

abbrev pub border_of : Side → Sides → Border
border_of First s = s.first
border_of Second s = s.second

abbrev pub with_border : Side → Border → Sides → Sides
with_border First border s = record s { first = border }
with_border Second border s = record s { second = border }

-- with another first key, or another last key
abbrev pub with_first : Side → Option ℕ → Sides → Sides
with_first side to s = with_border side (record { first = to; last = (border_of side s).last }) s

abbrev pub with_last : Side → Option ℕ → Sides → Sides
with_last side to s = with_border side (record { first = (border_of side s).first; last = to }) s

-- two empty chains
abbrev pub no_links : Sides
no_links = record { first = no_keys; second = no_keys }

-- how many turtles are held
abbrev pub held_count : Ends → ℕ
held_count ends = index_map_len ends.map

-- what is held of each turtle
abbrev pub sides_at : Ends → ℕ → Option Sides
sides_at ends turtle = get nat_eq ends.map turtle

abbrev pub border_in : Side → Option Sides → Border
border_in side None = no_keys
border_in side (Some s) = border_of side s

-- the border of each turtle's chain, and an empty one where the turtle isn't held
abbrev pub borders_of : Side → Ends → ℕ → Border
borders_of side ends turtle = border_in side (sides_at ends turtle)

-- one turtle has another entry, and every other one what it had
abbrev pub SetsSides : (old new : ℕ → Option Sides) → ℕ → Option Sides → Type 0
SetsSides old new turtle slot = (t : ℕ) → new t ≡ (if t == turtle then slot else old t)

abbrev pub SameSides : (old new : ℕ → Option Sides) → Type 0
SameSides old new = (t : ℕ) → new t ≡ old t

-- the same turtles are held
abbrev pub HoldsSame : (old new : Ends) → Type 0
HoldsSame old new = (t : ℕ) → is_some (sides_at new t) ≡ is_some (sides_at old t)

-- the same turtles are held, and the chains by the other end begin and end where they did
pub record KeepsBeside (side : Side) (old new : Ends) : Type 0 where
  pub held : HoldsSame old new
  pub beside : (t : ℕ) → borders_of (other_side side) new t ≡ borders_of (other_side side) old t

-- some lists are held, and the key is in the chain of this turtle, or in none
pub record IsAmong (side : Side) (ends : Ends) (at : ℕ → Option Record) (turtle : Option ℕ) (key : ℕ) : Type 0 where
  pub home : ℕ → Option ℕ
  pub lists : ℕ → List ℕ
  pub filed : IsFiled (kind_of side) (borders_of side ends) at home lists
  pub here : home key ≡ turtle
