-- The cells of a line are found again from its bytes.
use Rattle.std.proofs.Common.{◌≡◌, ◌<◌, ◌==◌, Bool, true, false, if◌then◌else◌, [], ◌∷◌, ◌++◌, length, ap, sym, refl, ◌∙◌, arith, append_assoc, append-nil}
use Rattle.nl_fixed.specs.Nouns.{Bytes, Texts}
use Rattle.nl_table.specs.Lines.{quote, comma, line_feed, doubled, further_cells, line_text}
use Rattle.nl_table.specs.Laws.{LinesSayTheirCells}

-- where a byte stands: before a cell, between its quotes, or behind a quote that may be doubled
data Place : Type 0 where
  Before : Place
  Inside : Place
  Behind : Place

-- the cells that bytes have, where those before are known and the one at hand as far as it goes
abbrev read : Place → Bytes → Texts → Bytes → Texts
read place cell done [] = done
read Before cell done (byte ∷ rest) = read Inside [] done rest
read Inside cell done (byte ∷ rest) = if byte == quote then read Behind cell done rest else read Inside (cell ++ byte ∷ []) done rest
read Behind cell done (byte ∷ rest) =
    if byte == quote then read Inside (cell ++ byte ∷ []) done rest
    else if byte == comma then read Before [] (done ++ cell ∷ []) rest
    else done ++ cell ∷ []

to_its_end : (cell before : Bytes) (done : Texts) (rest : Bytes)
    → read Inside before done (doubled cell ++ quote ∷ rest) ≡ read Behind (before ++ cell) done rest
to_its_end [] before done rest = ap (λ c. read Behind c done rest) (sym (append-nil before))
to_its_end (byte ∷ cell) before done rest =
    by (byte == quote) refl
    (to_its_end cell (before ++ byte ∷ []) done rest ∙ ap (λ c. read Behind c done rest) (append_assoc before (byte ∷ []) cell))
  where
    by : (b : Bool) → (byte == quote) ≡ b
        → read Inside (before ++ byte ∷ []) done (doubled cell ++ quote ∷ rest) ≡ read Behind (before ++ byte ∷ cell) done rest
        → read Inside before done (doubled (byte ∷ cell) ++ quote ∷ rest) ≡ read Behind (before ++ byte ∷ cell) done rest
    by true is later = rw (is, is, later)
    by false is later = rw (is, is, later)

to_the_end : (cells : Texts) (cell : Bytes) (done : Texts) → read Behind cell done (further_cells cells ++ line_feed ∷ []) ≡ done ++ cell ∷ cells
to_the_end [] cell done = refl
to_the_end (next ∷ cells) cell done =
    ap (read Inside [] (done ++ cell ∷ []))
    (append_assoc (doubled next ++ quote ∷ []) (further_cells cells) (line_feed ∷ [])
    ∙ append_assoc (doubled next) (quote ∷ []) (further_cells cells ++ line_feed ∷ []))
    ∙ to_its_end next [] (done ++ cell ∷ []) (further_cells cells ++ line_feed ∷ [])
    ∙ to_the_end cells next (done ++ cell ∷ [])
    ∙ append_assoc done (cell ∷ []) (next ∷ cells)

read_again : (cells : Texts) → 0 < length cells → read Before [] [] (line_text cells) ≡ cells
read_again [] some = absurd (omega arith)
read_again (cell ∷ cells) some =
    ap (read Inside [] [])
    (append_assoc (doubled cell ++ quote ∷ []) (further_cells cells) (line_feed ∷ [])
    ∙ append_assoc (doubled cell) (quote ∷ []) (further_cells cells ++ line_feed ∷ []))
    ∙ to_its_end cell [] [] (further_cells cells ++ line_feed ∷ [])
    ∙ to_the_end cells cell []

pub lines_say_their_cells : LinesSayTheirCells
lines_say_their_cells cells others some other same =
    sym (read_again cells some) ∙ ap (read Before [] []) same ∙ read_again others other
