-- The text of a record, as the crate `csv` writes it, is the line of its cells.
use Rattle.std.proofs.Common.{◌≡◌, ◌<◌, [], ◌∷◌, ◌++◌, length, false, refl, arith, append_assoc, append-nil}
use Rattle.std.proofs.lemmas.Bool.Decides.{nat_tests}
use Rattle.csv.specs.Writing.{escaped, row_text as csv_text, fields_text, is_blank}
use Rattle.nl_fixed.specs.Nouns.{Bytes, Texts}
use Rattle.nl_table.specs.Lines.{doubled, further_cells, line_text, always_quoted}

-- the bytes between the quotes
escaped-doubled : (cell : Bytes) → escaped always_quoted cell ≡ doubled cell
unfolding escaped
escaped-doubled [] = refl
escaped-doubled (byte ∷ rest) = rw (escaped-doubled rest)

-- the cells behind the first
fields_text-further : (cells : Texts) → fields_text always_quoted cells ≡ further_cells cells
unfolding fields_text
fields_text-further [] = refl
fields_text-further (cell ∷ cells) = rw (escaped-doubled cell, fields_text-further cells)

-- a record of quoted cells shows a byte
not_blank : (first : Bytes) (cells : Texts) → is_blank always_quoted (first ∷ cells) ≡ false
unfolding is_blank
not_blank first [] = grind (arith, nat_tests)
not_blank first (cell ∷ cells) = refl

pub csv_text-line_text : (cells : Texts) → 0 < length cells → csv_text always_quoted cells ≡ line_text cells
csv_text-line_text [] some = absurd (omega arith)
csv_text-line_text (first ∷ cells) some = rw (escaped-doubled first, fields_text-further cells, not_blank first cells)

-- six lines, appended to nothing one after another
pub six_lines : (a b c d e f t0 t1 t2 t3 t4 t5 t6 : Bytes) → t0 ≡ [] → t1 ≡ t0 ++ a → t2 ≡ t1 ++ b → t3 ≡ t2 ++ c → t4 ≡ t3 ++ d → t5 ≡ t4 ++ e → t6 ≡ t5 ++ f
    → t6 ≡ a ++ (b ++ (c ++ (d ++ (e ++ (f ++ [])))))
six_lines a b c d e f t0 t1 t2 t3 t4 t5 t6 e0 e1 e2 e3 e4 e5 e6 =
    rw (e6, e5, e4, e3, e2, e1, e0) (simp (append_assoc, append-nil))

-- the cells of the columns, appended to none part by part
pub columns_made : (run step end : Bytes) (variables metrics t0 t1 t2 t3 t4 t5 : Texts) → t0 ≡ [] → t1 ≡ t0 ++ run ∷ [] → t2 ≡ t1 ++ variables
    → t3 ≡ t2 ++ step ∷ [] → t4 ≡ t3 ++ metrics → t5 ≡ t4 ++ end ∷ [] → t5 ≡ run ∷ variables ++ step ∷ metrics ++ end ∷ []
columns_made run step end variables metrics t0 t1 t2 t3 t4 t5 e0 e1 e2 e3 e4 e5 = rw (e5, e4, e3, e2, e1, e0) (simp append_assoc)
