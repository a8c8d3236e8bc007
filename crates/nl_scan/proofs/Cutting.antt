-- Cutting a text piece by piece.
use Rattle.std.proofs.Common.{◌≡◌, ℕ, ℤ, zero, suc, ◌+◌, ◌-◌, ◌≤◌, ◌<◌, ◌==◌, ◌⊎◌, inl, inr, Bool, true, false, List, [], ◌∷◌, ◌++◌, length, drop, take, cond, Option, Some, None, Result, Ok, Err, refl, ap, sym, ◌∙◌, arith, append_assoc, append-nil, take_all, length-drop, nat_lt, get_or}
use Rattle.std.specs.List.{prefix_len}
use Rattle.std.specs.Str.{IsUtf8, is_utf8}
use Rattle.std.specs.Str.Lossy.{utf8_valid_len}
use Rattle.std.proofs.lemmas.Bool.{cases_Bool}
use Rattle.std.proofs.lemmas.Bool.Decides.{nat_tests}
use Rattle.std.proofs.lemmas.List.{drop-drop, length-take, length-take-le}
use Rattle.std.proofs.lemmas.List.Sums.{prefix_len-le-length}
use Rattle.std.proofs.lemmas.Str.{IsUtf8-from_is_utf8, is_utf8-from_IsUtf8}
use Rattle.nl_fixed.specs.declared.number.NumFault.{NumFault}
use Rattle.nl_fixed.specs.Spelling.{read_of}
use Rattle.nl_scan.specs.declared.token.Lexeme.{Lexeme}
use Rattle.nl_scan.specs.declared.token.Token.{Token}
use Rattle.nl_scan.specs.declared.token.ScanKind.{ScanKind}
use Rattle.nl_scan.specs.declared.pieces.Form.{Form}
use Rattle.nl_scan.specs.declared.pieces.Piece.{Piece}
use Rattle.nl_scan.specs.Forms.{is_in_line, is_word_byte, bracket_of, first_bad_escape}
use Rattle.nl_scan.specs.Faults.{ScanFault, text_limit}
use Rattle.nl_scan.specs.Forms.{least_length}
use Rattle.nl_scan.specs.Tokens.{tokens_of}
use Rattle.nl_scan.specs.inner.Pieces.{cut_from, after_piece, token_first, piece_at, piece_by, form_at, word_piece, quoted_piece, escaped_piece, bracket_piece, closed_length, IsPieceWithin}
use Rattle.nl_scan.proofs.Runs.{IsWithin, IsBelow, begins-form_at, closed_length-within, first_bad_escape-below, word_len-some}

pub least_length-some : (lexeme : Lexeme) → 0 < least_length lexeme
least_length-some Lexeme.Text = omega arith
least_length-some Lexeme.Word = omega arith
least_length-some (Lexeme.Number number) = omega arith
least_length-some Lexeme.Open = omega arith
least_length-some Lexeme.Close = omega arith
least_length-some Lexeme.OpenParen = omega arith
least_length-some Lexeme.CloseParen = omega arith

-- ---- the piece that begins a text lies in it

word_piece-within : (most len : ℕ) (read : Option (Result ℤ NumFault)) → 0 < len → len ≤ most → IsPieceWithin most (word_piece len read)
word_piece-within most len None some le = (omega arith, le)
word_piece-within most len (Some (Ok number)) some le = (omega arith, le)
word_piece-within most len (Some (Err fault)) some le = omega arith

escaped_piece-within : (most len : ℕ) (bad : Option ℕ) → 1 ≤ len → len ≤ most → IsBelow len bad → IsPieceWithin (suc most) (escaped_piece (suc len) bad)
escaped_piece-within most len None some le below = (omega arith, omega arith)
escaped_piece-within most len (Some before) some le below = omega arith

quoted_piece-within : (rest : List ℕ) (closed : Option ℕ) → IsWithin 1 (length rest) closed → IsPieceWithin (suc (length rest)) (quoted_piece closed rest)
quoted_piece-within rest None within = omega arith
quoted_piece-within rest (Some len) within =
    let below = first_bad_escape-below false (take len rest) in
    let size : length (take len rest) ≡ len = length-take-le len rest within.1 in
    escaped_piece-within (length rest) len (first_bad_escape false (take len rest)) within.0 within.1 (rw size at below)

bracket_piece-within : (most : ℕ) (byte : ℕ) → IsPieceWithin (suc most) (bracket_piece (bracket_of byte))
bracket_piece-within most byte = one (byte == 91) (byte == 93) (byte == 40) (byte == 41)
  where
    one : (a b c d : Bool) → IsPieceWithin (suc most) (bracket_piece (cond a (Some Lexeme.Open) (cond b (Some Lexeme.Close) (cond c (Some Lexeme.OpenParen) (cond d (Some Lexeme.CloseParen) None)))))
    one true b c d = (omega arith, omega arith)
    one false true c d = (omega arith, omega arith)
    one false false true d = (omega arith, omega arith)
    one false false false true = (omega arith, omega arith)
    one false false false false = omega arith

piece_by-within : (byte : ℕ) (rest : List ℕ) (form : Option Form) → form_at byte ≡ form → IsPieceWithin (suc (length rest)) (piece_by form byte rest)
piece_by-within byte rest (Some Form.Space) e = (omega arith, omega arith)
piece_by-within byte rest (Some Form.Comment) e = (omega arith, omega (arith, prefix_len-le-length is_in_line rest))
piece_by-within byte rest (Some Form.Word) e =
    word_piece-within (suc (length rest)) (prefix_len is_word_byte (byte ∷ rest)) _ (word_len-some byte rest (begins-form_at byte Form.Word e)) (prefix_len-le-length is_word_byte (byte ∷ rest))
piece_by-within byte rest (Some Form.Quoted) e = quoted_piece-within rest (closed_length false rest) (closed_length-within false rest)
piece_by-within byte rest (Some Form.Bracket) e = bracket_piece-within (length rest) byte
piece_by-within byte rest None e = omega arith

pub piece_at-within : (byte : ℕ) (rest : List ℕ) → IsPieceWithin (suc (length rest)) (piece_at (byte ∷ rest))
piece_at-within byte rest = piece_by-within byte rest (form_at byte) refl

pub first_within : (text : List ℕ) → 0 < length text → IsPieceWithin (length text) (piece_at text)
first_within [] some = absurd (omega arith)
first_within (byte ∷ rest) some = piece_at-within byte rest

-- what follows a piece depends on what is behind it alone
after_piece-same : (at len : ℕ) (f g : ℕ → Result (List Token) ScanFault) (piece : Piece) → IsPieceWithin len piece
    → ((n : ℕ) → 0 < n → n ≤ len → f n ≡ g n) → after_piece at f piece ≡ after_piece at g piece
after_piece-same at len f g (Piece.Gap n) within same = same n within.0 within.1
after_piece-same at len f g (Piece.Found lexeme n) within same =
    let some : 0 < n = omega (arith, least_length-some lexeme, within.0) in ap (token_first _) (same n some within.1)
after_piece-same at len f g (Piece.Bad kind n) within same = refl

-- as long as there is a room for each byte, more rooms change nothing
pub cut_from-rooms : (a b at : ℕ) (text : List ℕ) → length text ≤ a → length text ≤ b → cut_from a at text ≡ cut_from b at text
cut_from-rooms zero zero at text short also = refl
cut_from-rooms zero (suc b) at [] short also = refl
cut_from-rooms zero (suc b) at (byte ∷ rest) short also = absurd (omega arith)
cut_from-rooms (suc a) zero at [] short also = refl
cut_from-rooms (suc a) zero at (byte ∷ rest) short also = absurd (omega arith)
cut_from-rooms (suc a) (suc b) at [] short also = refl
cut_from-rooms (suc a) (suc b) at (byte ∷ rest) short also =
    after_piece-same at (suc (length rest)) _ _ (piece_at (byte ∷ rest)) (piece_at-within byte rest)
    (λ n some within. cut_from-rooms a b (at + n) (drop n (byte ∷ rest)) (simp length-drop (omega arith)) (simp length-drop (omega arith)))

-- tokens that stand before those of a text
abbrev pub tokens_first : List Token → Result (List Token) ScanFault → Result (List Token) ScanFault
tokens_first tokens (Ok more) = Ok (tokens ++ more)
tokens_first tokens (Err fault) = Err fault

tokens_first-one : (tokens : List Token) (token : Token) (r : Result (List Token) ScanFault) → tokens_first (tokens ++ token ∷ []) r ≡ tokens_first tokens (token_first token r)
tokens_first-one tokens token (Ok more) = ap Ok (append_assoc tokens (token ∷ []) more)
tokens_first-one tokens token (Err fault) = refl

cut_first : (text : List ℕ) (at room : ℕ) (rest : List ℕ) → rest ≡ drop at text → 0 < length rest → length rest ≤ room
    → cut_from room at rest ≡ after_piece at (λ n. cut_from (length text - (at + n)) (at + n) (drop (at + n) text)) (piece_at rest)
cut_first text at zero rest e some short = absurd (omega arith)
cut_first text at (suc room) [] e some short = absurd (omega arith)
cut_first text at (suc room) (byte ∷ more) e some short =
    let len : suc (length more) ≡ length text - at = ap length e ∙ length-drop at text in
    after_piece-same at (suc (length more)) _ _ (piece_at (byte ∷ more)) (piece_at-within byte more)
    (λ n some within.
    cut_from-rooms room (length text - (at + n)) (at + n) (drop n (byte ∷ more)) (simp length-drop (omega arith)) (simp length-drop (omega arith))
    ∙ ap (cut_from (length text - (at + n)) (at + n)) (ap (drop n) e ∙ drop-drop n at text))

-- a text from a place on: its first piece, and what follows
pub cut_from-on : (text : List ℕ) (at : ℕ) → at < length text
    → cut_from (length text - at) at (drop at text) ≡ after_piece at (λ n. cut_from (length text - (at + n)) (at + n) (drop (at + n) text)) (piece_at (drop at text))
cut_from-on text at below =
    cut_first text at (length text - at) (drop at text) refl (simp length-drop (omega arith)) (simp length-drop (omega arith))

-- one more token found
pub found_more : (text : List ℕ) (tokens : List Token) (at n : ℕ) (lexeme : Lexeme) (all : Result (List Token) ScanFault) → at < length text
    → piece_at (drop at text) ≡ Piece.Found lexeme n
    → tokens_first tokens (cut_from (length text - at) at (drop at text)) ≡ all
    → tokens_first (tokens ++ record { lexeme = lexeme; span = record { start = at; len = n } } ∷ []) (cut_from (length text - (at + n)) (at + n) (drop (at + n) text)) ≡ all
found_more text tokens at n lexeme all below found so_far =
    tokens_first-one tokens _ _ ∙ ap (tokens_first tokens) (sym (cut_from-on text at below ∙ ap (after_piece at _) found)) ∙ so_far

-- a gap passed over
pub gap_over : (text : List ℕ) (tokens : List Token) (at n : ℕ) (all : Result (List Token) ScanFault) → at < length text
    → piece_at (drop at text) ≡ Piece.Gap n
    → tokens_first tokens (cut_from (length text - at) at (drop at text)) ≡ all
    → tokens_first tokens (cut_from (length text - (at + n)) (at + n) (drop (at + n) text)) ≡ all
gap_over text tokens at n all below found so_far =
    ap (tokens_first tokens) (sym (cut_from-on text at below ∙ ap (after_piece at _) found)) ∙ so_far

-- a fault met
pub bad_met : (text : List ℕ) (tokens : List Token) (at n : ℕ) (kind : ScanKind) (all : Result (List Token) ScanFault) → at < length text
    → piece_at (drop at text) ≡ Piece.Bad kind n
    → tokens_first tokens (cut_from (length text - at) at (drop at text)) ≡ all
    → all ≡ Err (record { kind = kind; place = at + n })
bad_met text tokens at n kind all below found so_far =
    sym so_far ∙ ap (tokens_first tokens) (cut_from-on text at below ∙ ap (after_piece at _) found)

-- the rest of a text, as the code names it
pub rest_from : (text : List ℕ) (at : ℕ) → take (length text - at) (drop at text) ≡ drop at text
rest_from text at = take_all _ _ (simp length-drop (omega arith))

-- a text past the limit, one that is no text, and one that is
pub tokens_of-long : (text : List ℕ) → text_limit < length text → tokens_of text ≡ Err (record { kind = ScanKind.TooLong; place = text_limit })
unfolding tokens_of
tokens_of-long text long =
    let test : nat_lt text_limit (length text) ≡ true = grind (arith, nat_tests) in
    rw test

no_text : (text : List ℕ) → (IsUtf8 text → ⊥) → is_utf8 text ≡ false
no_text text none = by (cases_Bool (is_utf8 text))
  where
    by : (is_utf8 text ≡ true) ⊎ (is_utf8 text ≡ false) → is_utf8 text ≡ false
    by (inl e) = absurd (none (IsUtf8-from_is_utf8 text e))
    by (inr e) = e

pub tokens_of-no_text : (text : List ℕ) → length text ≤ text_limit → (IsUtf8 text → ⊥) → tokens_of text ≡ Err (record { kind = ScanKind.NotText; place = utf8_valid_len text })
unfolding tokens_of
tokens_of-no_text text short none =
    let test : nat_lt text_limit (length text) ≡ false = grind (arith, nat_tests) in
    rw (test, no_text text none)

pub tokens_of-text : (text : List ℕ) → length text ≤ text_limit → IsUtf8 text → tokens_of text ≡ cut_from (length text) 0 text
unfolding tokens_of
tokens_of-text text short is =
    let test : nat_lt text_limit (length text) ≡ false = grind (arith, nat_tests) in
    rw (test, is_utf8-from_IsUtf8 text is)

-- all tokens, where nothing is left
pub all_found : (text : List ℕ) (tokens : List Token) (at : ℕ) (all : Result (List Token) ScanFault) → length text ≤ at
    → tokens_first tokens (cut_from (length text - at) at (drop at text)) ≡ all → all ≡ Ok tokens
all_found text tokens at all done so_far =
    let none : length text - at ≡ 0 = omega arith in
    sym so_far ∙ rw none (ap Ok (append-nil tokens))

-- ---- the piece that begins a text, by its first byte

pub behind_first : (text : List ℕ) → 0 < length text → length (take (length text - 1) (drop 1 text)) + 1 ≡ length text
behind_first text some = simp (length-take, length-drop) (omega arith)

pub word_first : (text : List ℕ) (piece : Piece) → 0 < length text → form_at (get_or text 0 0) ≡ Some Form.Word
    → piece ≡ word_piece (prefix_len is_word_byte text) (read_of (take (prefix_len is_word_byte text) text)) → piece ≡ piece_at text
word_first [] piece some h e = absurd (omega arith)
word_first (byte ∷ rest) piece some h e = rw h e

pub quoted_first : (text behind : List ℕ) (piece : Piece) → 0 < length text → form_at (get_or text 0 0) ≡ Some Form.Quoted
    → behind ≡ drop 1 text → piece ≡ quoted_piece (closed_length false behind) behind → piece ≡ piece_at text
quoted_first [] behind piece some h e is = absurd (omega arith)
quoted_first (byte ∷ rest) behind piece some h e is = rw h (is ∙ ap (λ (b : List ℕ). quoted_piece (closed_length false b) b) e)
