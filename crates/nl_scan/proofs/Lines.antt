-- The lines of a file before the one that ends the code.
use Rattle.std.proofs.Common.{◌≡◌, ℕ, zero, suc, ◌+◌, ◌≤◌, ◌<◌, ◌==◌, true, false, List, [], ◌∷◌, ◌++◌, length, drop, take, min, refl, ap, sym, ◌∙◌, subst, arith, append_assoc, append-nil, ◌⊎◌, inl, inr, zero-add, length-drop, take_all}
use Rattle.std.specs.List.{prefix_len, take_while}
use Rattle.std.specs.Str.{bytes_eq}
use Rattle.std.proofs.lemmas.Bool.{cases_Bool, cases_lt}
use Rattle.std.proofs.Math.Seq.{take-length, drop-length, take-nil}
use Rattle.std.proofs.lemmas.List.{drop-drop, drop_all, take-take}
use Rattle.nl_scan.specs.Forms.{is_in_line, line_feed}
use Rattle.nl_scan.specs.CodePart.{code_of, lines_of, section_line}

-- how many bytes a line has before its line feed
abbrev pub line_length : List ℕ → ℕ
line_length text = prefix_len is_in_line text

one_more : (n : ℕ) → 1 + n + 1 ≡ suc (n + 1)
one_more n = omega arith

-- the first line of a text, with its line feed, and what is behind it
lines_by : (byte : ℕ) (rest : List ℕ) → (lines_of rest ≡ []) × (rest ≡ []) ⊎ (lines_of rest ≡ take (line_length rest + 1) rest ∷ lines_of (drop (line_length rest + 1) rest))
    → ((byte == line_feed) ≡ true) ⊎ ((byte == line_feed) ≡ false)
    → lines_of (byte ∷ rest) ≡ take (line_length (byte ∷ rest) + 1) (byte ∷ rest) ∷ lines_of (drop (line_length (byte ∷ rest) + 1) (byte ∷ rest))
lines_by byte rest behind (inl e) = rw e refl
lines_by byte rest (inl none) (inr e) = rw (e, none.0, none.1) refl
lines_by byte rest (inr is) (inr e) = rw (e, is, one_more (line_length rest)) refl

lines_of-first : (byte : ℕ) (rest : List ℕ) → lines_of (byte ∷ rest) ≡ take (line_length (byte ∷ rest) + 1) (byte ∷ rest) ∷ lines_of (drop (line_length (byte ∷ rest) + 1) (byte ∷ rest))
lines_of-first byte [] = lines_by byte [] (inl (refl, refl)) (cases_Bool (byte == line_feed))
lines_of-first byte (next ∷ rest) = lines_by byte (next ∷ rest) (inr (lines_of-first next rest)) (cases_Bool (byte == line_feed))

-- without its line feed
line_length-by : (byte : ℕ) (rest : List ℕ) → line_length (take (line_length rest + 1) rest) ≡ line_length rest → (is_in_line byte ≡ true) ⊎ (is_in_line byte ≡ false)
    → line_length (take (line_length (byte ∷ rest) + 1) (byte ∷ rest)) ≡ line_length (byte ∷ rest)
line_length-by byte rest more (inl e) = rw (e, one_more (line_length rest), e, more) refl
line_length-by byte rest more (inr e) = rw (e, e) refl

length-line : (text : List ℕ) → line_length (take (line_length text + 1) text) ≡ line_length text
length-line [] = refl
length-line (byte ∷ rest) = line_length-by byte rest (length-line rest) (cases_Bool (is_in_line byte))

line_length-take : (text : List ℕ) → take_while is_in_line (take (line_length text + 1) text) ≡ take (line_length text) text
line_length-take text =
    ap (λ n. take n (take (line_length text + 1) text)) (length-line text) ∙ take-take (line_length text) (line_length text + 1) text (omega arith)

-- the code of a text whose first line ends it, and of any other
pub code_of-ended : (text : List ℕ) → 0 < length text → bytes_eq (take (line_length text) text) section_line ≡ true → code_of text ≡ []
unfolding code_of
code_of-ended [] some e = absurd (omega arith)
code_of-ended (byte ∷ rest) some e = rw (lines_of-first byte rest, line_length-take (byte ∷ rest), e) refl

pub code_of-goes_on : (text : List ℕ) → 0 < length text → bytes_eq (take (line_length text) text) section_line ≡ false
    → code_of text ≡ take (line_length text + 1) text ++ code_of (drop (line_length text + 1) text)
unfolding code_of
code_of-goes_on [] some e = absurd (omega arith)
code_of-goes_on (byte ∷ rest) some e = rw (lines_of-first byte rest, line_length-take (byte ∷ rest), e) refl

-- ---- over the lines of a file, from a place on

pub line_at : (file rest : List ℕ) (at len : ℕ) (all : List ℕ) → rest ≡ drop at file → at < length file → len ≡ line_length rest
    → take at file ++ code_of rest ≡ all → bytes_eq (take len rest) section_line ≡ true → take at file ≡ all
line_at file rest at len all e below is so_far ends =
    let some : 0 < length rest = rw e (simp length-drop (omega arith)) in
    let ended : bytes_eq (take (line_length rest) rest) section_line ≡ true = rw (← is) ends in
    sym (append-nil (take at file)) ∙ ap (λ (code : List ℕ). take at file ++ code) (sym (code_of-ended rest some ended)) ∙ so_far

suc_more : (at n : ℕ) → suc at + n ≡ suc (at + n)
suc_more at n = omega arith

take-more : (at n : ℕ) (file : List ℕ) → take at file ++ take n (drop at file) ≡ take (at + n) file
take-more zero n file = rw (zero-add n) refl
take-more (suc at) n [] = take-nil n ∙ sym (take-nil (suc at + n))
take-more (suc at) n (byte ∷ file) = rw (suc_more at n) (ap (λ (bytes : List ℕ). byte ∷ bytes) (take-more at n file))

front_more : (file : List ℕ) (at n : ℕ) → take at file ++ (take n (drop at file) ++ code_of (drop n (drop at file))) ≡ take (at + n) file ++ code_of (drop (at + n) file)
front_more file at n = sym (append_assoc (take at file) (take n (drop at file)) (code_of (drop n (drop at file)))) ∙ rw (take-more at n file, drop-drop n at file) refl

past : (file : List ℕ) (end : ℕ) → take (min (length file) end) file ++ code_of (drop (min (length file) end) file) ≡ take end file ++ code_of (drop end file)
past file end = by (cases_lt end (length file))
  where
    by : (end < length file) ⊎ (length file ≤ end) → take (min (length file) end) file ++ code_of (drop (min (length file) end) file) ≡ take end file ++ code_of (drop end file)
    by (inl below) = let e : min (length file) end ≡ end = omega arith in rw e refl
    by (inr long) =
        let e : min (length file) end ≡ length file = omega arith in
        rw (e, take-length file, drop-length file, take_all end file long, drop_all end file long) refl

pub line_over : (file rest : List ℕ) (at len next : ℕ) (all : List ℕ) → rest ≡ drop at file → at < length file → len ≡ line_length rest → next ≡ min (length file) (at + len + 1)
    → take at file ++ code_of rest ≡ all → bytes_eq (take len rest) section_line ≡ false → take next file ++ code_of (drop next file) ≡ all
line_over file rest at len next all e below is to so_far goes =
    let some : 0 < length rest = rw e (simp length-drop (omega arith)) in
    let going : bytes_eq (take (line_length rest) rest) section_line ≡ false = rw (← is) goes in
    let code : take at file ++ (take (len + 1) rest ++ code_of (drop (len + 1) rest)) ≡ all =
    ap (λ (bytes : List ℕ). take at file ++ bytes) (sym (rw is (code_of-goes_on rest some going))) ∙ so_far in
    let P : List ℕ → Type 0 = λ bytes. take at file ++ (take (len + 1) bytes ++ code_of (drop (len + 1) bytes)) ≡ all in
    let one : at + (len + 1) ≡ at + len + 1 = omega arith in
    rw (to, past file (at + len + 1), ← one) (sym (front_more file at (len + 1)) ∙ subst P e code)

-- no line is left
pub no_line : (file : List ℕ) (at : ℕ) (all : List ℕ) → length file ≤ at → take at file ++ code_of (drop at file) ≡ all → file ≡ all
unfolding code_of
no_line file at all done so_far =
    let here = rw (take_all at file done, drop_all at file done, append-nil) at so_far in here
