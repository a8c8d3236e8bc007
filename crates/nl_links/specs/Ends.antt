-- What the chains of links hold: for each turtle the keys of the links that have it as first end, and of those that have it as second end.
--
-- Which keys are filed is told by a test.
use Rattle.std.specs.Prelude.{◌≡◌, ℕ, ◌==◌, Bool, true, false, List, [], Option, Some, None, IsSome, IsSomeAnd, is_some, if◌then◌else◌}
use Rattle.std.specs.Option.{option_map}
use Rattle.nl_store_records.specs.Records.{fields_at, no_place}
use Rattle.nl_store_records.specs.Filed.{IsFiled}
use Rattle.nl_store_records.specs.declared.fields.Body.{Body}
use Rattle.nl_store_records.specs.declared.fields.Body.TheVariants.{Turtle, Link}
use Rattle.nl_store_records.specs.declared.fields.Fields.{Fields}
use Rattle.nl_store_records.specs.declared.record.Record.{Record}
use Rattle.nl_index.specs.Rows.{put_in, take_from}
use Rattle.nl_index.specs.Index.{home_by}
use Rattle.nl_links.specs.declared.sides.Side.TheVariants.{First, Second}
use Rattle.nl_links.specs.declared.ends.Ends.{Ends}
use Rattle.nl_links.specs.Sides.{borders_of, sides_at}

-- the ends of an agent, where it is a link
abbrev pub first_end : Body → Option ℕ
first_end (Turtle at) = None
first_end (Link directed end1 end2) = Some end1

abbrev pub second_end : Body → Option ℕ
second_end (Turtle at) = None
second_end (Link directed end1 end2) = Some end2

-- the turtles in whose chains an agent is
abbrev pub by_first : Fields → Option ℕ
by_first f = first_end f.body

abbrev pub by_second : Fields → Option ℕ
by_second f = second_end f.body

-- the turtle is held
abbrev pub IsHeldBy : Ends → ℕ → Type 0
IsHeldBy ends turtle = IsSome (sides_at ends turtle)

-- it is a link, and both of its ends are held
abbrev pub AreEndsOf : Ends → Body → Type 0
AreEndsOf ends (Turtle at) = ⊥
AreEndsOf ends (Link directed end1 end2) = IsHeldBy ends end1 × IsHeldBy ends end2

abbrev pub HasEnds : Ends → Fields → Type 0
HasEnds ends f = AreEndsOf ends f.body

-- the keys of each turtle's two chains, in order
pub record LinkLists : Type 0 where
  pub first : ℕ → List ℕ
  pub second : ℕ → List ℕ

-- The keys that pass the test are those of links whose ends are held, and are in the chains of both ends, each once; no other key is.
pub record IsEnded (ends : Ends) (at : ℕ → Option Record) (filed : ℕ → Bool) (lists : LinkLists) : Type 0 where
  pub first : IsFiled 3 (borders_of First ends) at (home_by by_first filed at) lists.first
  pub second : IsFiled 4 (borders_of Second ends) at (home_by by_second filed at) lists.second
  pub fit : (key : ℕ) → filed key ≡ true → IsSomeAnd (fields_at at key) (HasEnds ends)

-- some lists are held, and the key is in none
pub record MayJoin (ends : Ends) (at : ℕ → Option Record) (key : ℕ) : Type 0 where
  pub filed : ℕ → Bool
  pub lists : LinkLists
  pub ended : IsEnded ends at filed lists
  pub away : filed key ≡ false

-- some lists are held, and the key is in its chains
pub record IsJoined (ends : Ends) (at : ℕ → Option Record) (key : ℕ) : Type 0 where
  pub filed : ℕ → Bool
  pub lists : LinkLists
  pub ended : IsEnded ends at filed lists
  pub here : filed key ≡ true

-- some lists are held, and both chains of the turtle are empty
pub record IsFree (ends : Ends) (turtle : ℕ) : Type 0 where
  pub at : ℕ → Option Record
  pub filed : ℕ → Bool
  pub lists : LinkLists
  pub ended : IsEnded ends at filed lists
  pub first : lists.first turtle ≡ []
  pub second : lists.second turtle ≡ []

-- ---- what calls make of the lists

abbrev pub no_link_lists : LinkLists
no_link_lists = record { first = λ _. []; second = λ _. [] }

-- the link is the last of both of its chains
abbrev pub lists_joined : Fields → ℕ → LinkLists → LinkLists
lists_joined f key lists = record { first = put_in (by_first f) key lists.first; second = put_in (by_second f) key lists.second }

-- the link is gone from both
abbrev pub lists_parted : Fields → ℕ → LinkLists → LinkLists
lists_parted f key lists = record { first = take_from (by_first f) key lists.first; second = take_from (by_second f) key lists.second }

-- one turtle is held, or isn't, and each other one is where it was
abbrev pub Holds : (old new : Ends) → ℕ → Bool → Type 0
Holds old new turtle now = (t : ℕ) → is_some (sides_at new t) ≡ (if t == turtle then now else is_some (sides_at old t))

-- ---- what calls make of the records

-- the record apart from its places in the chains by end
abbrev pub unjoined : Option Record → Option Record
unjoined r = option_map (λ (x : Record). record x { end1 = no_place; end2 = no_place }) r

-- the same keys are held, and their records differ at most in these places
abbrev pub SameUnjoined : (old new : ℕ → Option Record) → Type 0
SameUnjoined old new = (key : ℕ) → unjoined (new key) ≡ unjoined (old key)
