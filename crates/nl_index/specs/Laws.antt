-- What holds of the chains of an index, in the words of the agents that they hold.
use Rattle.std.specs.Prelude.{◌≡◌, ℕ, ◌==◌, ◌&&◌, Bool, true, false, List, Option, Some, None}
use Rattle.nl_grid.specs.Geometry.{Plane, patch_at}
use Rattle.nl_store_lists.specs.Chained.{has, IsOnce}
use Rattle.nl_store_lists.specs.Rising.{IsRisingBy}
use Rattle.nl_store_records.specs.Records.{fields_at}
use Rattle.nl_store_records.specs.declared.fields.Body.{Body}
use Rattle.nl_store_records.specs.declared.fields.Body.TheVariants.{Turtle, Link}
use Rattle.nl_store_records.specs.declared.fields.Fields.{Fields}
use Rattle.nl_store_records.specs.declared.record.Record.{Record}
use Rattle.nl_index.specs.Index.{IsIndex, Lists, keys_of, serial_at}
use Rattle.nl_index.specs.declared.chains.Chain.{Chain}
use Rattle.nl_index.specs.declared.chains.Chain.TheVariants as chain
use Rattle.nl_index.specs.declared.chains.Chains.{Chains}

-- what an agent is belongs in a chain: a turtle among the turtles, on its patch and of its breed, a link among the links
abbrev pub belongs : Plane → ℕ → Chain → Body → Bool
belongs shape breed chain.Turtles (Turtle at) = true
belongs shape breed chain.Links (Turtle at) = false
belongs shape breed (chain.Patch patch) (Turtle at) = patch_at shape at == patch
belongs shape breed (chain.Breed b) (Turtle at) = breed == b
belongs shape breed chain.Turtles (Link directed end1 end2) = false
belongs shape breed chain.Links (Link directed end1 end2) = true
belongs shape breed (chain.Patch patch) (Link directed end1 end2) = false
belongs shape breed (chain.Breed b) (Link directed end1 end2) = false

abbrev pub is_member : Plane → Chain → Option Fields → Bool
is_member shape c None = false
is_member shape c (Some f) = belongs shape f.breed c f.body

-- Each chain holds just the filed agents that belong in it, each once.
pub record IsFilter (chains : Chains) (at : ℕ → Option Record) (filed : ℕ → Bool) (c : Chain) (keys : List ℕ) : Type 0 where
  pub members : (key : ℕ) → has keys key ≡ (filed key && is_member chains.shape c (fields_at at key))
  pub once : IsOnce keys

abbrev pub ChainsAreFilters : Type 0
ChainsAreFilters =
    (chains : Chains) (at : ℕ → Option Record) (filed : ℕ → Bool) (lists : Lists) → IsIndex chains at filed lists →
    (c : Chain) → IsFilter chains at filed c (keys_of c lists)

-- all turtles, and all links, are in order of serial
pub record AreInOrder (at : ℕ → Option Record) (lists : Lists) : Type 0 where
  pub turtles : IsRisingBy (serial_at at) (keys_of chain.Turtles lists)
  pub links : IsRisingBy (serial_at at) (keys_of chain.Links lists)

abbrev pub BirthsAreInOrder : Type 0
BirthsAreInOrder =
    (chains : Chains) (at : ℕ → Option Record) (filed : ℕ → Bool) (lists : Lists) → IsIndex chains at filed lists → AreInOrder at lists

-- chains and records tell the lists
abbrev pub ListsAreOne : Type 0
ListsAreOne =
    (chains : Chains) (at : ℕ → Option Record) (filed filed' : ℕ → Bool) (xs ys : Lists) → IsIndex chains at filed xs →
    IsIndex chains at filed' ys → (c : Chain) → keys_of c xs ≡ keys_of c ys
