-- How many lines the bytes of a table have.
use Rattle.std.proofs.Common.{◌≡◌, suc, ◌<◌, ◌==◌, Bool, true, false, List, [], ◌∷◌, ◌++◌, length, ap, sym, refl, ◌∙◌, arith, append_assoc, append-nil}
use Rattle.nl_fixed.specs.Nouns.{Bytes, Texts}
use Rattle.nl_table.specs.Lines.{quote, line_feed, doubled, cell_text, further_cells, line_text, lines_text}
use Rattle.nl_table.specs.Header.{header_lines, header_text}
use Rattle.nl_table.specs.Laws.{lines_from, LinesAreOne, HeadersHaveSixLines}

-- no line ends inside of a cell
inside : (cell rest : Bytes) → lines_from true (doubled cell ++ quote ∷ rest) ≡ lines_from false rest
inside [] rest = refl
inside (byte ∷ cell) rest = by (byte == quote) refl (inside cell rest)
  where
    by : (b : Bool) → (byte == quote) ≡ b → lines_from true (doubled cell ++ quote ∷ rest) ≡ lines_from false rest
        → lines_from true (doubled (byte ∷ cell) ++ quote ∷ rest) ≡ lines_from false rest
    by true is later = rw (is, is, later)
    by false is later = rw (is, is, later)

after_cell : (cell rest : Bytes) → lines_from false (cell_text cell ++ rest) ≡ lines_from false rest
after_cell cell rest = ap (lines_from true) (append_assoc (doubled cell) (quote ∷ []) rest) ∙ inside cell rest

after_cells : (cells : Texts) (rest : Bytes) → lines_from false (further_cells cells ++ rest) ≡ lines_from false rest
after_cells [] rest = refl
after_cells (cell ∷ cells) rest =
    ap (lines_from false) (append_assoc (cell_text cell) (further_cells cells) rest)
    ∙ after_cell cell (further_cells cells ++ rest)
    ∙ after_cells cells rest

after_line : (cells : Texts) (rest : Bytes) → 0 < length cells → lines_from false (line_text cells ++ rest) ≡ suc (lines_from false rest)
after_line [] rest some = absurd (omega arith)
after_line (cell ∷ cells) rest some =
    ap (lines_from false)
    (append_assoc (cell_text cell ++ further_cells cells) (line_feed ∷ []) rest ∙ append_assoc (cell_text cell) (further_cells cells) (line_feed ∷ rest))
    ∙ after_cell cell (further_cells cells ++ line_feed ∷ rest)
    ∙ after_cells cells (line_feed ∷ rest)

pub lines_are_one : LinesAreOne
lines_are_one cells some = ap (lines_from false) (sym (append-nil (line_text cells))) ∙ after_line cells [] some

-- each line has a cell
abbrev AreFull : List Texts → Type 0
AreFull [] = Unit {0}
AreFull (cells ∷ lines) = (0 < length cells) × AreFull lines

lines_of : (lines : List Texts) → AreFull lines → lines_from false (lines_text lines) ≡ length lines
lines_of [] full = refl
lines_of (cells ∷ lines) full = after_line cells (lines_text lines) full.0 ∙ ap suc (lines_of lines full.1)

pub headers_have_six_lines : HeadersHaveSixLines
unfolding header_text
headers_have_six_lines model name [] variables metrics four = absurd (omega arith)
headers_have_six_lines model name (bound ∷ bounds) variables metrics four =
    lines_of (header_lines model name (bound ∷ bounds) variables metrics)
    (omega arith, (omega arith, (omega arith, (omega arith, (omega arith, (omega arith, tt))))))
