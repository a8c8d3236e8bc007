-- The part of a file that is code.
use Rattle.std.specs.Prelude.{ℕ, ◌==◌, List, [], ◌∷◌, ◌++◌, codes, Bool, if◌then◌else◌}
use Rattle.std.specs.List.{take_while}
use Rattle.std.specs.Str.{bytes_eq}
use Rattle.nl_fixed.specs.Nouns.{Bytes}
use Rattle.nl_scan.specs.Forms.{is_in_line, line_feed}

-- the lines of a file, in order
abbrev pub Lines : Type 0
Lines = List Bytes

-- lines with this byte before the first of them
abbrev pub byte_first : ℕ → Lines → Lines
byte_first byte [] = (byte ∷ []) ∷ []
byte_first byte (line ∷ lines) = (byte ∷ line) ∷ lines

-- the lines of a file, each with its line feed, which the last may lack
abbrev pub lines_of : Bytes → Lines
lines_of [] = []
lines_of (byte ∷ rest) = if byte == line_feed then (byte ∷ []) ∷ lines_of rest else byte_first byte (lines_of rest)

-- the line that ends the code
abbrev pub section_line : Bytes
section_line = codes "@#$#@#$#@"

-- whether a line is that one, its line feed aside
abbrev pub is_section_line : Bytes → Bool
is_section_line line = bytes_eq (take_while is_in_line line) section_line

-- the lines before the first that is, joined
abbrev pub before_section : Lines → Bytes
before_section [] = []
before_section (line ∷ lines) = if is_section_line line then [] else line ++ before_section lines

-- the code of a file: its lines before the first that ends the code, or all
unfoldable pub code_of : Bytes → Bytes
code_of file = before_section (lines_of file)
