-- The cells of which a piece is the line, read by the crate `csv`.
use Rattle.std.specs.Prelude.{◌≡◌, ◌≢◌, ◌<◌, ◌==◌, ℕ, List, [], ◌∷◌, Option, Some, None, length, slice_get, if◌then◌else◌}
use denote.Ref.{Bor}
use Rattle.csv.specs.Reading.{default_config, reader_config, reader_state, reader_trim, source_of, Ready}
use Rattle.csv.specs.declared.parser.State.TheVariants as st
use Rattle.csv.specs.declared.reader.Reader.{Reader}
use Rattle.csv.specs.declared.reader.Trim.TheVariants as trim
use Rattle.nl_fixed.specs.Nouns.{Bytes, Texts}
use Rattle.nl_table.specs.Lines.{quote, line_text}

-- a piece is the line of these cells, of which there is one at least
abbrev pub IsLineOf : Texts → Bytes → Type 0
IsLineOf cells piece = (0 < length cells) × (piece ≡ line_text cells)

-- a piece is the line of no cells
abbrev pub IsNoLine : Bytes → Type 0
IsNoLine piece = (cells : Texts) → 0 < length cells → piece ≢ line_text cells

-- what is left of bytes behind others, where they begin with those
abbrev pub behind : Bytes → Bytes → Option Bytes
behind [] bytes = Some bytes
behind (byte ∷ front) [] = None
behind (byte ∷ front) (first ∷ bytes) = if first == byte then behind front bytes else None

-- the same behind a line, of which a cell is there at least
abbrev pub behind_line : Texts → Bytes → Option Bytes
behind_line [] bytes = None
behind_line (cell ∷ cells) bytes = behind (line_text (cell ∷ cells)) bytes

-- what a reader of a slice has left to read
abbrev pub SliceReader : Type 0
SliceReader = Reader (Bor (List ℕ))

-- a reader reads these bytes next, where they begin as a line does, and not within a record
abbrev pub StandsBefore : SliceReader → Bytes → Type 0
StandsBefore reader bytes =
    (reader_config reader ≡ default_config) × (reader_trim reader ≡ trim.None) × (reader_state reader ≡ st.StartRecord) × Ready reader
    × (slice_get bytes 0 ≡ Some quote → source_of (λ slice. Some slice.now) reader ≡ Some bytes)
