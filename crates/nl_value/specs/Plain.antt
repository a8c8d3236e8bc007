-- Values without where they lie in memory.
use Rattle.std.specs.Prelude.{ℕ, ℤ, Bool, List, [], ◌∷◌, Option, Some, None}
use Rattle.nl_fixed.specs.Nouns.{Bytes}
use Rattle.nl_value.specs.declared.sets.AgentSet.{AgentSet}

mutual
  pub data Plain : Type 0 where
    PlainNumber : (count : ℤ) → Plain
    PlainTruth : (truth : Bool) → Plain
    PlainWords : (bytes : Bytes) → Plain
    PlainItems : (items : Plains) → Plain
    PlainTurtle : (turtle : ℕ) → Plain
    PlainPatch : (patch : ℕ) → Plain
    PlainLink : (link : ℕ) → Plain
    PlainNobody : Plain
    PlainSet : (set : AgentSet) → Plain

  pub data Plains : Type 0 where
    no_items : Plains
    item_then : (first : Plain) (rest : Plains) → Plains

-- a list of plain values as the data has it
abbrev pub plains : List Plain → Plains
plains [] = no_items
plains (p ∷ ps) = item_then p (plains ps)

-- the items of the data as a list, which is the way back
abbrev pub items_of : Plains → List Plain
items_of no_items = []
items_of (item_then first rest) = first ∷ items_of rest

-- the text that a value is
abbrev pub text_in : Plain → Option Bytes
text_in (PlainWords bytes) = Some bytes
text_in value = None
