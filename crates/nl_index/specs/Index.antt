-- What chains hold: the keys of agents by birth, by patch and by breed.
--
-- Which keys are filed is told by a test. The chains of a kind are disjoint, so that a key is in one of them at most. There are two chains
-- of births, that of turtles and that of links, one chain of turtles for each patch, and one for each breed. Links are on no patch, and
-- in no chain of a breed.
use Rattle.std.specs.Prelude.{◌≡◌, ℕ, ◌<◌, ◌==◌, Bool, true, false, List, [], ◌∷◌, length, Option, Some, None, IsSomeAnd, if◌then◌else◌}
use Rattle.std.specs.Option.{option_map}
use Rattle.nl_grid.specs.Geometry.{Plane, IsPointOf, patch_at, patches_of}
use Rattle.nl_grid.specs.declared.point.Point.{Point}
use Rattle.nl_store_lists.specs.Rising.{IsRisingBy}
use Rattle.nl_store_records.specs.Records.{fields_at, no_place, settled}
use Rattle.nl_store_records.specs.Filed.{IsFiled}
use Rattle.nl_store_records.specs.declared.fields.Body.{Body}
use Rattle.nl_store_records.specs.declared.fields.Body.TheVariants.{Turtle, Link}
use Rattle.nl_store_records.specs.declared.fields.Fields.{Fields}
use Rattle.nl_store_records.specs.declared.record.Record.{Record}
use Rattle.nl_index.specs.Rows.{borders_in, put_in, take_from}
use Rattle.nl_index.specs.declared.chains.Chain.{Chain}
use Rattle.nl_index.specs.declared.chains.Chain.TheVariants as chain
use Rattle.nl_index.specs.declared.chains.Chains.{Chains}

-- ---- in which chain an agent is

-- of births: 0 for turtles, 1 for links
abbrev pub birth_chain : Body → ℕ
birth_chain (Turtle at) = 0
birth_chain (Link directed end1 end2) = 1

-- of its patch
abbrev pub patch_chain : Plane → Body → Option ℕ
patch_chain shape (Turtle at) = Some (patch_at shape at)
patch_chain shape (Link directed end1 end2) = None

-- of its breed
abbrev pub breed_chain : ℕ → Body → Option ℕ
breed_chain breed (Turtle at) = Some breed
breed_chain breed (Link directed end1 end2) = None

abbrev pub by_birth : Fields → Option ℕ
by_birth f = Some (birth_chain f.body)

abbrev pub by_patch : Plane → Fields → Option ℕ
by_patch shape f = patch_chain shape f.body

abbrev pub by_breed : Fields → Option ℕ
by_breed f = breed_chain f.breed f.body

-- the chain of an agent, where there is one
abbrev pub chain_of : (Fields → Option ℕ) → Option Fields → Option ℕ
chain_of number None = None
chain_of number (Some f) = number f

-- in which chain of a kind each key is
abbrev pub home_by : (Fields → Option ℕ) → (ℕ → Bool) → (ℕ → Option Record) → ℕ → Option ℕ
home_by number filed at key = if filed key then chain_of number (fields_at at key) else None

-- the serial of the agent under a key
abbrev pub serial_in : Option Fields → ℕ
serial_in None = 0
serial_in (Some f) = f.serial

abbrev pub serial_at : (ℕ → Option Record) → ℕ → ℕ
serial_at at key = serial_in (fields_at at key)

-- a turtle stands in the world
abbrev pub StandsOn : Plane → Body → Type 0
StandsOn shape (Turtle at) = IsPointOf shape at
StandsOn shape (Link directed end1 end2) = Unit {0}

-- the breed of a turtle has a chain
abbrev pub HasBreedChain : (breeds breed : ℕ) → Body → Type 0
HasBreedChain breeds breed (Turtle at) = breed < breeds
HasBreedChain breeds breed (Link directed end1 end2) = Unit {0}

abbrev pub breeds_in : Chains → ℕ
breeds_in chains = length chains.breeds.items

-- there are chains for the agent
abbrev pub Fits : Chains → Fields → Type 0
Fits chains f = StandsOn chains.shape f.body × HasBreedChain (breeds_in chains) f.breed f.body

-- ---- what chains hold

-- the keys of each chain, in order
pub record Lists : Type 0 where
  pub births : ℕ → List ℕ
  pub patches : ℕ → List ℕ
  pub breeds : ℕ → List ℕ

-- there is a chain for turtles and one for links, and one for each patch of the shape
pub record IsWhole (chains : Chains) : Type 0 where
  pub births : length chains.births.items ≡ 2
  pub patches : length chains.patches.items ≡ patches_of chains.shape

-- the chains are those of this shape and of so many breeds
pub record IsSized (shape : Plane) (breeds : ℕ) (chains : Chains) : Type 0 where
  pub shape_is : chains.shape ≡ shape
  pub breeds_are : breeds_in chains ≡ breeds

-- The keys that pass the test are in their chains, each once, and no other key is; in each chain of births they are in order of serial.
pub record IsIndex (chains : Chains) (at : ℕ → Option Record) (filed : ℕ → Bool) (lists : Lists) : Type 0 where
  pub births : IsFiled 0 (borders_in chains.births.items) at (home_by by_birth filed at) lists.births
  pub patches : IsFiled 1 (borders_in chains.patches.items) at (home_by (by_patch chains.shape) filed at) lists.patches
  pub breeds : IsFiled 2 (borders_in chains.breeds.items) at (home_by by_breed filed at) lists.breeds
  pub rising : (number : ℕ) → IsRisingBy (serial_at at) (lists.births number)
  pub fit : (key : ℕ) → filed key ≡ true → IsSomeAnd (fields_at at key) (Fits chains)
  pub whole : IsWhole chains

-- every filed agent of the same chain of births has a lesser serial
abbrev pub IsAbove : (ℕ → Option Record) → (ℕ → Bool) → ℕ → Type 0
IsAbove at filed key =
    (other : ℕ) → filed other ≡ true → chain_of by_birth (fields_at at other) ≡ chain_of by_birth (fields_at at key) →
    serial_at at other < serial_at at key

-- some lists are held, and the key is in none and may be put last
pub record MayAdd (chains : Chains) (at : ℕ → Option Record) (key : ℕ) : Type 0 where
  pub filed : ℕ → Bool
  pub lists : Lists
  pub index : IsIndex chains at filed lists
  pub away : filed key ≡ false
  pub above : IsAbove at filed key

-- some lists are held, and the key is in its chains
pub record IsListed (chains : Chains) (at : ℕ → Option Record) (key : ℕ) : Type 0 where
  pub filed : ℕ → Bool
  pub lists : Lists
  pub index : IsIndex chains at filed lists
  pub here : filed key ≡ true

-- ---- what calls make of the lists

abbrev pub no_lists : Lists
no_lists = record { births = λ _. []; patches = λ _. []; breeds = λ _. [] }

-- the agent is the last of its chains
abbrev pub lists_added : Plane → Fields → ℕ → Lists → Lists
lists_added shape f key lists = record {
  births = put_in (by_birth f) key lists.births;
  patches = put_in (by_patch shape f) key lists.patches;
  breeds = put_in (by_breed f) key lists.breeds;
}

-- the agent is gone from its chains
abbrev pub lists_removed : Plane → Fields → ℕ → Lists → Lists
lists_removed shape f key lists = record {
  births = take_from (by_birth f) key lists.births;
  patches = take_from (by_patch shape f) key lists.patches;
  breeds = take_from (by_breed f) key lists.breeds;
}

-- the agent is gone from the chains of its patch and breed, and is the last of those of another patch and breed
abbrev pub lists_refiled : Plane → Fields → Point → ℕ → ℕ → Lists → Lists
lists_refiled shape f to breed key lists = record {
  births = lists.births;
  patches = put_in (Some (patch_at shape to)) key (take_from (by_patch shape f) key lists.patches);
  breeds = put_in (Some breed) key (take_from (by_breed f) key lists.breeds);
}

-- ---- what calls make of the records

-- the record apart from its places in the chains by birth, patch and breed
abbrev pub bare : Option Record → Option Record
bare r = option_map (λ (x : Record). record x { births = no_place; patch = no_place; breed = no_place }) r

-- the same keys are held, and their records differ at most in these places
abbrev pub SameBare : (old new : ℕ → Option Record) → Type 0
SameBare old new = (key : ℕ) → bare (new key) ≡ bare (old key)

-- so it is of all but one key, whose agent is at this point and of this breed
abbrev pub MovesBare : ℕ → Point → ℕ → (old new : ℕ → Option Record) → Type 0
MovesBare key to breed old new =
    (k : ℕ) → bare (new k) ≡ (if k == key then option_map (settled (Turtle to) breed) (bare (old k)) else bare (old k))

abbrev pub IsTurtle : Option Fields → Type 0
IsTurtle None = ⊥
IsTurtle (Some f) = birth_chain f.body ≡ 0

-- ---- the first of a chain

-- there is a chain of that name
abbrev pub IsChain : Chain → Chains → Type 0
IsChain chain.Turtles chains = Unit {0}
IsChain chain.Links chains = Unit {0}
IsChain (chain.Patch patch) chains = patch < patches_of chains.shape
IsChain (chain.Breed breed) chains = breed < breeds_in chains

-- its keys
abbrev pub keys_of : Chain → Lists → List ℕ
keys_of chain.Turtles lists = lists.births 0
keys_of chain.Links lists = lists.births 1
keys_of (chain.Patch patch) lists = lists.patches patch
keys_of (chain.Breed breed) lists = lists.breeds breed

abbrev pub first_of : List ℕ → Option ℕ
first_of [] = None
first_of (x ∷ xs) = Some x
