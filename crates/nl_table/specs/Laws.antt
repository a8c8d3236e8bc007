-- Laws of tables: their bytes say which cells and how many lines there are.
use Rattle.std.specs.Prelude.{◌≡◌, ◌<◌, ℕ, suc, ℤ, ◌==◌, ◌&&◌, Bool, false, not, List, [], ◌∷◌, length, if◌then◌else◌}
use Rattle.nl_fixed.specs.Nouns.{Bytes, Names, Texts}
use Rattle.nl_table.specs.Lines.{line_text, quote, line_feed}
use Rattle.nl_table.specs.Header.{header_text}

-- two lists of one or more cells have the same line only where they are equal
abbrev pub LinesSayTheirCells : Type 0
LinesSayTheirCells = (cells others : Texts) → 0 < length cells → 0 < length others → line_text cells ≡ line_text others → cells ≡ others

-- how many lines bytes have: line feeds outside of quotes, where the first byte stands inside of them or not
abbrev pub lines_from : Bool → Bytes → ℕ
lines_from inside [] = 0
lines_from inside (byte ∷ rest) =
    if byte == quote then lines_from (not inside) rest
    else if not inside && (byte == line_feed) then suc (lines_from inside rest)
    else lines_from inside rest

abbrev pub lines_in : Bytes → ℕ
lines_in bytes = lines_from false bytes

-- a line is one, whatever its cells hold
abbrev pub LinesAreOne : Type 0
LinesAreOne = (cells : Texts) → 0 < length cells → lines_in (line_text cells) ≡ 1

-- a header has six lines, whatever the names hold
abbrev pub HeadersHaveSixLines : Type 0
HeadersHaveSixLines =
    (model name : Bytes) (bounds : List ℤ) (variables metrics : Names) → length bounds ≡ 4 → lines_in (header_text model name bounds variables metrics) ≡ 6
