-- Laws of how far a partial table reaches: there is one answer, each piece is judged by those before it alone, and a front of a table reaches.
use Rattle.std.specs.Prelude.{◌≡◌, ◌≤◌, ◌-◌, ℕ, List, ◌++◌, length}
use Rattle.nl_fixed.specs.Nouns.{Bytes, Texts}
use Rattle.nl_table.specs.Lines.{lines_text}
use Rattle.nl_table.specs.Reach.{AreDue, Reaches, ended_in, rows_of}
use Rattle.nl_table.specs.declared.reach.Reach.{Reach}
use Rattle.nl_table.specs.declared.reach.Reach.TheVariants as reach

-- bytes reach in one way
abbrev pub ReachIsOne : Type 0
ReachIsOne = (columns runs : ℕ) (bytes : Bytes) (a b : Reach) → Reaches columns runs bytes a → Reaches columns runs bytes b → a ≡ b

-- a piece that isn't due stays so, whatever is behind the bytes
abbrev pub MisfitsStay : Type 0
MisfitsStay = (columns runs : ℕ) (bytes more : Bytes) (place : ℕ) → Reaches columns runs bytes (reach.Misfit place) → Reaches columns runs (bytes ++ more) (reach.Misfit place)

-- and pieces that are due stay so, with those that were behind them taken off
abbrev pub RowsStay : Type 0
RowsStay =
    (columns runs : ℕ) (bytes more : Bytes) (ended begin : ℕ) → Reaches columns runs (bytes ++ more) (reach.Rows ended begin)
    → (earlier start : ℕ) × Reaches columns runs bytes (reach.Rows earlier start) × (earlier ≤ ended)

-- a front of the lines of rows that are due reaches as the rows do that are whole in it
abbrev pub FrontsOfRowsReach : Type 0
FrontsOfRowsReach =
    (columns runs : ℕ) (rows : List Texts) (front rest : Bytes) → AreDue columns runs rows → front ++ rest ≡ lines_text rows
    → (whole further : List Texts) × (rows ≡ whole ++ further)
    × Reaches columns runs front (reach.Rows (ended_in whole) (length (lines_text (rows_of (ended_in whole - 1) whole))))
