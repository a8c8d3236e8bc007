-- What holds of the chains of links, in the words of the links that they hold.
use Rattle.std.specs.Prelude.{◌≡◌, ℕ, ◌==◌, ◌&&◌, Bool, false, List, Option, Some, None}
use Rattle.nl_store_lists.specs.Chained.{has, IsOnce}
use Rattle.nl_store_records.specs.Records.{fields_at}
use Rattle.nl_store_records.specs.declared.fields.Body.{Body}
use Rattle.nl_store_records.specs.declared.fields.Body.TheVariants.{Turtle, Link}
use Rattle.nl_store_records.specs.declared.fields.Fields.{Fields}
use Rattle.nl_store_records.specs.declared.record.Record.{Record}
use Rattle.nl_links.specs.Ends.{IsEnded, LinkLists}
use Rattle.nl_links.specs.declared.ends.Ends.{Ends}

-- the agent is a link with the turtle as first end, or as second end
abbrev pub begins_at : ℕ → Body → Bool
begins_at turtle (Turtle at) = false
begins_at turtle (Link directed end1 end2) = end1 == turtle

abbrev pub ends_at : ℕ → Body → Bool
ends_at turtle (Turtle at) = false
ends_at turtle (Link directed end1 end2) = end2 == turtle

abbrev pub in_body : (Body → Bool) → Option Fields → Bool
in_body test None = false
in_body test (Some f) = test f.body

-- The keys are those of the filed agents that pass the test, each once.
pub record AreThose (at : ℕ → Option Record) (filed : ℕ → Bool) (test : Body → Bool) (keys : List ℕ) : Type 0 where
  pub members : (key : ℕ) → has keys key ≡ (filed key && in_body test (fields_at at key))
  pub once : IsOnce keys

-- Each of a turtle's chains holds just the filed links with it as that end, each once.
pub record AreFilters (at : ℕ → Option Record) (filed : ℕ → Bool) (turtle : ℕ) (lists : LinkLists) : Type 0 where
  pub first : AreThose at filed (begins_at turtle) (lists.first turtle)
  pub second : AreThose at filed (ends_at turtle) (lists.second turtle)

abbrev pub EndsAreFilters : Type 0
EndsAreFilters =
    (ends : Ends) (at : ℕ → Option Record) (filed : ℕ → Bool) (lists : LinkLists) → IsEnded ends at filed lists →
    (turtle : ℕ) → AreFilters at filed turtle lists

pub record AreSame (xs ys : LinkLists) : Type 0 where
  pub first : (turtle : ℕ) → xs.first turtle ≡ ys.first turtle
  pub second : (turtle : ℕ) → xs.second turtle ≡ ys.second turtle

-- chains and records tell the lists
abbrev pub ListsAreOne : Type 0
ListsAreOne =
    (ends : Ends) (at : ℕ → Option Record) (filed filed' : ℕ → Bool) (xs ys : LinkLists) → IsEnded ends at filed xs →
    IsEnded ends at filed' ys → AreSame xs ys
