-- Which values share memory, so that a copy of any other can't fail, and which may ask for some where they are compared: what holds no set
-- is compared without any.
use Rattle.std.specs.Prelude.{Bool, true, false, ◌||◌}
use Rattle.nl_value.specs.Plain.{Plain, Plains, PlainNumber, PlainTruth, PlainWords, PlainItems, PlainTurtle, PlainPatch, PlainLink, PlainNobody, PlainSet, no_items, item_then}

-- the value is a text, a list or a set
abbrev pub is_shared : Plain → Bool
is_shared (PlainNumber count) = false
is_shared (PlainTruth truth) = false
is_shared (PlainWords bytes) = true
is_shared (PlainItems items) = true
is_shared (PlainTurtle turtle) = false
is_shared (PlainPatch patch) = false
is_shared (PlainLink link) = false
is_shared PlainNobody = false
is_shared (PlainSet set) = true

-- a set is the value or stands in it, at any depth
abbrev mutual
  pub holds_set : Plain → Bool
  holds_set (PlainNumber count) = false
  holds_set (PlainTruth truth) = false
  holds_set (PlainWords bytes) = false
  holds_set (PlainItems items) = some_hold_set items
  holds_set (PlainTurtle turtle) = false
  holds_set (PlainPatch patch) = false
  holds_set (PlainLink link) = false
  holds_set PlainNobody = false
  holds_set (PlainSet set) = true

  pub some_hold_set : Plains → Bool
  some_hold_set no_items = false
  some_hold_set (item_then first rest) = holds_set first || some_hold_set rest
