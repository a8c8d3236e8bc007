-- The text of a value.
use Rattle.std.specs.Prelude.{ℕ, Bool, true, if◌then◌else◌, List, [], ◌∷◌, ◌++◌, codes}
use Rattle.std.specs.List.{join_with_byte}
use Rattle.nl_fixed.specs.Nouns.{Bytes}
use Rattle.nl_fixed.specs.Quoted.{quoted_text}
use Rattle.nl_fixed.specs.Spelling.{number_text}
use Rattle.nl_value.specs.Plain.{Plain, Plains, PlainNumber, PlainTruth, PlainWords, PlainItems, PlainTurtle, PlainPatch, PlainLink, PlainNobody, PlainSet, no_items, item_then}
use Rattle.nl_value.specs.Living.{Living}

-- the bytes that stand around the items of a list
abbrev pub space : ℕ
space = 32

abbrev pub open_bracket : ℕ
open_bracket = 91

abbrev pub close_bracket : ℕ
close_bracket = 93

-- the text, with the texts between quotes where they stand in a list or quotes are asked for; a dead agent is nobody
abbrev mutual
  pub text_of : Living → Bool → Plain → Bytes
  text_of w quoted (PlainNumber count) = number_text count
  text_of w quoted (PlainTruth truth) = if truth then codes "true" else codes "false"
  text_of w quoted (PlainWords bytes) = if quoted then quoted_text bytes else bytes
  text_of w quoted (PlainItems items) = open_bracket ∷ (join_with_byte space (texts_of w items) ++ close_bracket ∷ [])
  text_of w quoted (PlainTurtle turtle) = if w.turtle_lives turtle then w.name (PlainTurtle turtle) else codes "nobody"
  text_of w quoted (PlainPatch patch) = w.name (PlainPatch patch)
  text_of w quoted (PlainLink link) = if w.link_lives link then w.name (PlainLink link) else codes "nobody"
  text_of w quoted PlainNobody = codes "nobody"
  text_of w quoted (PlainSet set) = w.name (PlainSet set)

  pub texts_of : Living → Plains → List Bytes
  texts_of w no_items = []
  texts_of w (item_then first rest) = text_of w true first ∷ texts_of w rest
