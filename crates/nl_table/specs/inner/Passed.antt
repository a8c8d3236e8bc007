-- What is known of a partial table while its pieces are judged.
use Rattle.std.specs.Prelude.{◌≡◌, ◌-◌, ◌++◌, ℕ, Bool, List, MatchBool, length}
use Rattle.nl_fixed.specs.Nouns.{Bytes, Texts}
use Rattle.nl_table.specs.Lines.{lines_text}
use Rattle.nl_table.specs.PieceLaws.{AreFull}
use Rattle.nl_table.specs.Reach.{AreDue, IsNumbered, ended_in, rows_of}
use Rattle.nl_table.specs.Reading.{IsLineOf, SliceReader, StandsBefore}

-- A piece is the line of a record with so many columns and this number, behind which the reader stands; or it is that of no such row.
abbrev pub Judged : SliceReader → Bytes → Texts → Bytes → ℕ → Bytes → Bool → Type 0
Judged reader behind fields piece columns number is_row =
    MatchBool is_row
    (IsLineOf fields piece × IsNumbered columns number fields × StandsBefore reader behind)
    ((cells : Texts) → IsLineOf cells piece → IsNumbered columns number cells → ⊥)

-- Rows that are due stand before what is left of bytes. So many of them end their run; the rows of the last of these runs begin at a place,
-- and end at another one.
abbrev pub HavePassed : ℕ → ℕ → Bytes → Bytes → ℕ → ℕ → ℕ → List Texts → Type 0
HavePassed columns runs bytes left ended begin behind rows =
    (bytes ≡ lines_text rows ++ left) × AreDue columns runs rows × (ended ≡ ended_in rows)
    × (begin ≡ length (lines_text (rows_of (ended - 1) rows))) × (behind ≡ length (lines_text (rows_of ended rows)))

abbrev pub Passed : ℕ → ℕ → Bytes → Bytes → ℕ → ℕ → ℕ → Type 0
Passed columns runs bytes left ended begin behind = (rows : List Texts) × HavePassed columns runs bytes left ended begin behind rows × AreFull rows
