-- How far the part of a table behind its header reaches: which of its pieces are rows of the runs in their order.
use Rattle.std.specs.Prelude.{◌≡◌, ◌<◌, ◌+◌, ◌-◌, ◌==◌, ℕ, zero, suc, Bool, not, List, [], ◌∷◌, ◌++◌, Some, map, length, take, get_or, slice_get, if◌then◌else◌}
use Rattle.std.specs.List.{filter}
use Rattle.std.specs.Fmt.{decimal}
use Rattle.nl_fixed.specs.Nouns.{Bytes, Texts}
use Rattle.nl_table.specs.Lines.{line_text, lines_text}
use Rattle.nl_table.specs.Pieces.{pieces}
use Rattle.nl_table.specs.Reading.{IsLineOf}
use Rattle.nl_table.specs.declared.reach.Reach.{Reach}
use Rattle.nl_table.specs.declared.reach.Reach.TheVariants as reach

-- a row's last cell isn't empty: the row ends its run
abbrev pub has_end : Texts → Bool
has_end cells = not (length (get_or cells (length cells - 1) []) == 0)

-- how many runs rows end
abbrev pub ended_in : List Texts → ℕ
ended_in rows = length (filter has_end rows)

-- The rows of so many runs: those up to the row that ends the last of them.
abbrev pub rows_of : ℕ → List Texts → List Texts
rows_of zero rows = []
rows_of (suc runs) [] = []
rows_of (suc runs) (cells ∷ rows) = cells ∷ rows_of (if has_end cells then runs else suc runs) rows

-- a row has so many columns, and a text in the first of them
abbrev pub IsNumbered : ℕ → Bytes → Texts → Type 0
IsNumbered columns number cells = (length cells ≡ columns) × (slice_get cells 0 ≡ Some number)

-- A row is due behind others where it has all columns, and its first cell is the number of the run that these leave open, or else of the one
-- behind those that they end. There must be so many runs.
abbrev pub IsDue : ℕ → ℕ → List Texts → Texts → Type 0
IsDue columns runs earlier cells = IsNumbered columns (decimal (ended_in earlier + 1)) cells × (ended_in earlier < runs)

-- each row is due behind those before it
abbrev pub AreDue : ℕ → ℕ → List Texts → Type 0
AreDue columns runs rows = (place : ℕ) (cells : Texts) → slice_get rows place ≡ Some cells → IsDue columns runs (take place rows) cells

-- Of a table with so many columns and runs, how far the bytes behind its header reach: their pieces are lines of rows that are due, so many of
-- which end a run, and the rows of the last such run begin behind those of the runs before it; or else the first piece that is no line of a row
-- that is due begins at a place.
abbrev pub Reaches : ℕ → ℕ → Bytes → Reach → Type 0
Reaches columns runs bytes (reach.Rows ended begin) =
    (rows : List Texts) × ((pieces bytes ≡ map line_text rows) × AreDue columns runs rows
    × (ended ≡ ended_in rows) × (begin ≡ length (lines_text (rows_of (ended - 1) rows))))
Reaches columns runs bytes (reach.Misfit place) =
    (rows : List Texts) × (piece : Bytes) × (further : List Bytes) × ((pieces bytes ≡ map line_text rows ++ piece ∷ further) × AreDue columns runs rows
    × ((cells : Texts) → IsLineOf cells piece → IsDue columns runs rows cells → ⊥)
    × (place ≡ length (lines_text rows)))
