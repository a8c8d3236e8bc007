-- When two values are the same.
use Rattle.std.specs.Prelude.{Bool, true, false, ◌&&◌, ◌==◌, if◌then◌else◌}
use Rattle.std.specs.Ordering.{int_eq}
use Rattle.std.specs.Str.{bytes_eq}
use Rattle.std.specs.Bool.{beq}
use Rattle.nl_value.specs.Plain.{Plain, Plains, PlainNumber, PlainTruth, PlainWords, PlainItems, PlainTurtle, PlainPatch, PlainLink, PlainNobody, PlainSet, no_items, item_then}
use Rattle.nl_value.specs.Living.{Living, same_sets}

-- the value with nobody in place of each dead agent
abbrev mutual
  pub settled : Living → Plain → Plain
  settled w (PlainNumber count) = PlainNumber count
  settled w (PlainTruth truth) = PlainTruth truth
  settled w (PlainWords bytes) = PlainWords bytes
  settled w (PlainItems items) = PlainItems (all_settled w items)
  settled w (PlainTurtle turtle) = if w.turtle_lives turtle then PlainTurtle turtle else PlainNobody
  settled w (PlainPatch patch) = PlainPatch patch
  settled w (PlainLink link) = if w.link_lives link then PlainLink link else PlainNobody
  settled w PlainNobody = PlainNobody
  settled w (PlainSet set) = PlainSet set

  pub all_settled : Living → Plains → Plains
  all_settled w no_items = no_items
  all_settled w (item_then first rest) = item_then (settled w first) (all_settled w rest)

-- lists are the same item by item, sets by kind and living members, and values of different kinds differ
abbrev mutual
  pub alike : Living → Plain → Plain → Bool
  alike w (PlainNumber m) (PlainNumber n) = int_eq m n
  alike w (PlainTruth m) (PlainTruth n) = beq m n
  alike w (PlainWords m) (PlainWords n) = bytes_eq m n
  alike w (PlainItems m) (PlainItems n) = all_alike w m n
  alike w (PlainTurtle m) (PlainTurtle n) = m == n
  alike w (PlainPatch m) (PlainPatch n) = m == n
  alike w (PlainLink m) (PlainLink n) = m == n
  alike w PlainNobody PlainNobody = true
  alike w (PlainSet m) (PlainSet n) = same_sets w m n
  alike w a b = false

  pub all_alike : Living → Plains → Plains → Bool
  all_alike w no_items no_items = true
  all_alike w no_items (item_then n ns) = false
  all_alike w (item_then m ms) no_items = false
  all_alike w (item_then m ms) (item_then n ns) = alike w m n && all_alike w ms ns

abbrev pub same_values : Living → Plain → Plain → Bool
same_values w a b = alike w (settled w a) (settled w b)

abbrev pub same_lists : Living → Plains → Plains → Bool
same_lists w ms ns = all_alike w (all_settled w ms) (all_settled w ns)

-- it is nobody or a dead agent
abbrev pub is_gone : Living → Plain → Bool
is_gone w (PlainTurtle n) = if w.turtle_lives n then false else true
is_gone w (PlainLink n) = if w.link_lives n then false else true
is_gone w PlainNobody = true
is_gone w b = false
