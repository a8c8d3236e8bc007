-- What the table says of a word, as plain data, and the look-ups in a list of such rows.
use Rattle.std.specs.Prelude.{◌≡◌, ℕ, Bool, List, Option, Some, find, slice_get, bytes_eq, option_map}
use Rattle.std.specs.Borrow.{Bor}
use Rattle.std.specs.Option.{option_copied}
use Rattle.nl_fixed.specs.Nouns.{Name}
use Rattle.nl_words.specs.declared.entry.Role.{Role}
use Rattle.nl_words.specs.declared.entry.Input.{Input}
use Rattle.nl_words.specs.declared.entry.Kinds.{Kinds}
use Rattle.nl_words.specs.declared.entry.Runner.{Runner}
use Rattle.nl_words.specs.declared.entry.Turns.{Turns}
use Rattle.nl_words.specs.declared.entry.Manner.{Manner}
use Rattle.nl_words.specs.declared.entry.Leaving.{Leaving}
use Rattle.nl_words.specs.declared.entry.Entry.{Entry}

-- the place of a word's row in the table. Those of the built-in words have names, as `MINUS`, in `specs.declared.codes.TheConstants`
abbrev pub Code : Type 0
Code = ℕ

-- the fields of an `Entry`, with the bytes of its name and the list of its inputs in place of what refers to them
pub record Row : Type 0 where
  pub name : Name
  pub role : Role
  pub inputs : List Input
  pub many : Bool
  pub runs : Kinds
  pub gives : Kinds
  pub blocks : Runner
  pub turns : Turns
  pub manner : Manner
  pub fixed : Bool
  pub leaving : Leaving
  pub code : Code

abbrev pub row_of : Entry → Row
row_of e =
    record {
      name = e.name.now;
      role = e.role;
      inputs = e.inputs.now;
      many = e.many;
      runs = e.runs;
      gives = e.gives;
      blocks = e.blocks;
      turns = e.turns;
      manner = e.manner;
      fixed = e.fixed;
      leaving = e.leaving;
      code = e.code;
    }

-- the row that a look-up answers
abbrev pub row_in : Option (Bor Entry) → Option Row
row_in found = option_map row_of (option_copied found)

-- the first row of this name
abbrev pub row_named : List Row → Name → Option Row
row_named rows name = find (λ row. bytes_eq row.name name) rows

-- the row at the place that a code names
abbrev pub row_at : List Row → Code → Option Row
row_at rows code = slice_get rows code

-- the entry's row stands at the place that is its code
abbrev pub IsInPlace : List Row → Entry → Type 0
IsInPlace rows entry = row_at rows entry.code ≡ Some (row_of entry)
