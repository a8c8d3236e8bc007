-- What the reader's tokens stand for.
use Rattle.std.specs.Prelude.{ℕ, Bool, true, false, List, ◌∷◌, ◌++◌, map}
use Rattle.nl_words.specs.declared.entry.Input.{Input}
use Rattle.nl_words.specs.declared.entry.Input.TheVariants as input
use Rattle.nl_tree.specs.Tokens as T
use Rattle.nl_tree.specs.declared.needs.Need.{Need}
use Rattle.nl_parse_reading.specs.declared.marks.Inputs.{Inputs}
use Rattle.nl_parse_reading.specs.declared.marks.Class.{Class}
use Rattle.nl_parse_reading.specs.declared.marks.Mark.{Mark}

-- an input of a command, or of a reporter, where the head of an arrow block has so many names at most
abbrev pub need_by : Bool → ℕ → Input → Need
need_by true n i = T.need_of_command n i
need_by false n i = T.need_of_reporter n i

abbrev pub needs_of : Inputs → List Need
needs_of is = map (need_by is.whole is.names) (is.listed.now ++ T.repeated is.values)

-- the inputs behind blocks that may be missing
abbrev pub behind_maybes : List Input → List Input
behind_maybes (input.MaybeCommands ∷ is) = behind_maybes is
behind_maybes is = is

abbrev pub class_of : Class → T.Class
class_of Class.Unknown = T.Unknown
class_of Class.Constant = T.Constant
class_of Class.Plain = T.Plain
class_of Class.Named = T.Named
class_of (Class.Prefix is) = T.Prefix (needs_of is)
class_of (Class.Many n) = T.Many n
class_of (Class.Closing is b) = T.Closing (needs_of is) b
class_of (Class.Command is) = T.Command (needs_of is)
class_of Class.Let = T.Let
class_of Class.With = T.With
class_of (Class.Near n) = T.Near n
class_of Class.Of = T.Of
class_of (Class.Binary l m) = T.Binary l m
class_of Class.Arrow = T.Arrow
class_of Class.Nowhere = T.Nowhere

abbrev pub mark_of : Mark → T.Tok
mark_of (Mark.Number n s) = T.number n s
mark_of (Mark.Text bytes s) = T.text bytes s
mark_of (Mark.Word h c) = T.word h.name (class_of c) h.place
mark_of (Mark.OpenBracket s) = T.open_bracket s
mark_of (Mark.CloseBracket s) = T.close_bracket s
mark_of (Mark.OpenParen s) = T.open_paren s
mark_of (Mark.CloseParen s) = T.close_paren s
mark_of (Mark.End s) = T.end s
