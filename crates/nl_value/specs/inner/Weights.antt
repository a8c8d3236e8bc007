-- A measure by which an item is less than the list that holds it: that of the calls that walk a value, and of its model.
use Rattle.std.specs.Prelude.{ℕ, ◌+◌, suc, List}
use Rattle.nl_value.specs.Plain.{Plain, Plains, PlainNumber, PlainTruth, PlainWords, PlainItems, PlainTurtle, PlainPatch, PlainLink, PlainNobody, PlainSet, no_items, item_then, plains}

abbrev mutual
  pub weight : Plain → ℕ
  weight (PlainNumber count) = 1
  weight (PlainTruth truth) = 1
  weight (PlainWords bytes) = 1
  weight (PlainItems items) = 2 + weights items
  weight (PlainTurtle turtle) = 1
  weight (PlainPatch patch) = 1
  weight (PlainLink link) = 1
  weight PlainNobody = 1
  weight (PlainSet set) = 1

  pub weights : Plains → ℕ
  weights no_items = 0
  weights (item_then first rest) = suc (weight first) + weights rest

abbrev pub list_weight : List Plain → ℕ
list_weight ps = weights (plains ps)
