-- Laws of cutting: lines are pieces, and a front of lines is cut into those that are whole.
use Rattle.std.specs.Prelude.{◌≡◌, ◌<◌, List, [], ◌∷◌, ◌++◌, length, map, Some, None}
use Rattle.std.specs.List.{AllByRecursion, concat}
use Rattle.nl_fixed.specs.Nouns.{Bytes, Texts}
use Rattle.nl_table.specs.Lines.{line_text, lines_text}
use Rattle.nl_table.specs.Pieces.{first_end, pieces, left_over}

-- a line, whatever stands behind it, has its first end at its own length
abbrev pub LinesHaveTheirEnd : Type 0
LinesHaveTheirEnd = (cells : Texts) (rest : Bytes) → 0 < length cells → first_end (line_text cells ++ rest) ≡ Some (length (line_text cells))

-- and no true front of it has one
abbrev pub FrontsHaveNoEnd : Type 0
FrontsHaveNoEnd = (cells : Texts) (front rest : Bytes) → 0 < length cells → front ++ rest ≡ line_text cells → 0 < length rest → first_end front ≡ None

-- each of these has its first end at its own length
abbrev pub AreWhole : List Bytes → Type 0
AreWhole found = AllByRecursion (λ piece. first_end piece ≡ Some (length piece)) found

-- pieces, joined with what is left over, are the bytes; each has its first end at its own length, and what is left over has none
abbrev pub PiecesAreTheBytes : Type 0
PiecesAreTheBytes = (bytes : Bytes) → (concat (pieces bytes) ++ left_over bytes ≡ bytes) × AreWhole (pieces bytes) × (first_end (left_over bytes) ≡ None)

-- and nothing else is cut so
abbrev pub PiecesAreTold : Type 0
PiecesAreTold = (found : List Bytes) (left : Bytes) → AreWhole found → first_end left ≡ None → (pieces (concat found ++ left) ≡ found) × (left_over (concat found ++ left) ≡ left)

-- each line has a cell at least
abbrev pub AreFull : List Texts → Type 0
AreFull lines = AllByRecursion (λ cells. 0 < length cells) lines

-- a true front of the first of these lines, or nothing where there is none
abbrev pub IsFrontOfFirst : Bytes → List Texts → Type 0
IsFrontOfFirst front [] = front ≡ []
IsFrontOfFirst front (cells ∷ lines) = (rest : Bytes) × (0 < length rest) × (front ++ rest ≡ line_text cells)

-- a front of lines is cut into the lines that are whole in it, and a true front of the next one is left over
abbrev pub FrontsAreCutIntoLines : Type 0
FrontsAreCutIntoLines =
    (lines : List Texts) (front rest : Bytes) → AreFull lines → front ++ rest ≡ lines_text lines
    → (whole further : List Texts) × (lines ≡ whole ++ further) × (pieces front ≡ map line_text whole) × IsFrontOfFirst (left_over front) further

-- what is appended changes no piece that is there
abbrev pub PiecesStay : Type 0
PiecesStay = (bytes more : Bytes) → (further : List Bytes) × (pieces (bytes ++ more) ≡ pieces bytes ++ further)
