-- What is written with the four escapes is read as what it was written from.
use Rattle.std.proofs.Common.{◌≡◌, ℕ, zero, suc, ◌+◌, ◌-◌, ◌≤◌, ◌==◌, ◌⊎◌, inl, inr, true, false, [], ◌∷◌, ◌++◌, length, drop, take, Option, Some, None, Ok, refl, ap, sym, ◌∙◌, subst, arith, append_assoc, append-nil, length-drop, length-append}
use Rattle.std.proofs.lemmas.Bool.{cases_Bool}
use Rattle.std.proofs.lemmas.List.{take_at, drop_at, drop-drop, length-take-le, take-take}
use Rattle.nl_fixed.specs.Nouns.{Bytes}
use Rattle.nl_fixed.specs.Quoted.{quote, backslash, line_feed, tab, written_byte, written_text, quoted_text}
use Rattle.nl_scan.specs.declared.token.Lexeme.{Lexeme}
use Rattle.nl_scan.specs.declared.token.Token.{Token}
use Rattle.nl_scan.specs.declared.pieces.Form.{Form}
use Rattle.nl_scan.specs.declared.pieces.Piece.{Piece}
use Rattle.nl_scan.specs.Contents.{resolved, content_of}
use Rattle.nl_scan.specs.Cuts.{IsFirst}
use Rattle.nl_scan.specs.Forms.{first_bad_escape, meaning_of, quoted_meaning}
use Rattle.nl_scan.specs.Texts.{LiesIn, bytes_of}
use Rattle.nl_scan.specs.Tokens.{IsText, tokens_of}
use Rattle.nl_scan.specs.inner.Pieces.{closed_length, piece_at, cut_from, after_piece}
use Rattle.nl_scan.proofs.Cutting.{tokens_of-text}
use Rattle.nl_scan.proofs.Firsts.{first_is, piece-is, piece_of}
use Rattle.nl_scan.proofs.Runs.{same_byte}

-- what holds of each byte with what is written of it
each_written : (P : ℕ → Bytes → Type 0) (byte : ℕ)
    → P line_feed (backslash ∷ 110 ∷ []) → P tab (backslash ∷ 116 ∷ []) → P backslash (backslash ∷ backslash ∷ []) → P quote (backslash ∷ quote ∷ [])
    → ((byte == line_feed) ≡ false → (byte == backslash) ≡ false → (byte == quote) ≡ false → P byte (byte ∷ []))
    → P byte (written_byte byte)
each_written P byte feed tabbed slashed quoted other = one (cases_Bool (byte == line_feed))
  where
    four : ((byte == quote) ≡ true) ⊎ ((byte == quote) ≡ false) → (byte == line_feed) ≡ false → (byte == tab) ≡ false → (byte == backslash) ≡ false → P byte (written_byte byte)
    four (inl e) x y z = subst (λ n. P n (written_byte n)) (sym (same_byte byte quote e)) quoted
    four (inr e) x y z = rw (x, y, z, e) (other x z e)

    three : ((byte == backslash) ≡ true) ⊎ ((byte == backslash) ≡ false) → (byte == line_feed) ≡ false → (byte == tab) ≡ false → P byte (written_byte byte)
    three (inl e) x y = subst (λ n. P n (written_byte n)) (sym (same_byte byte backslash e)) slashed
    three (inr e) x y = four (cases_Bool (byte == quote)) x y e

    two : ((byte == tab) ≡ true) ⊎ ((byte == tab) ≡ false) → (byte == line_feed) ≡ false → P byte (written_byte byte)
    two (inl e) x = subst (λ n. P n (written_byte n)) (sym (same_byte byte tab e)) tabbed
    two (inr e) x = three (cases_Bool (byte == backslash)) x e

    one : ((byte == line_feed) ≡ true) ⊎ ((byte == line_feed) ≡ false) → P byte (written_byte byte)
    one (inl e) = subst (λ n. P n (written_byte n)) (sym (same_byte byte line_feed e)) feed
    one (inr e) = two (cases_Bool (byte == tab)) e

-- ---- it says the bytes

byte_says : (byte : ℕ) (rest : Bytes) → resolved false (written_byte byte ++ rest) ≡ byte ∷ resolved false rest
byte_says byte rest =
    each_written (λ b w. resolved false (w ++ rest) ≡ b ∷ resolved false rest) byte refl refl refl refl (λ x y z. rw y refl)

pub written_says : (bytes : Bytes) → resolved false (written_text bytes) ≡ bytes
written_says [] = refl
written_says (byte ∷ bytes) = byte_says byte (written_text bytes) ∙ ap (λ (rest : Bytes). byte ∷ rest) (written_says bytes)

-- ---- it is closed by the quote behind it, and has no other escapes

byte_goes_on : (byte : ℕ) (rest front : Bytes) → closed_length false rest ≡ Some (length front)
    → closed_length false (written_byte byte ++ rest) ≡ Some (length (written_byte byte ++ front))
byte_goes_on byte rest front h =
    each_written (λ b w. closed_length false (w ++ rest) ≡ Some (length (w ++ front))) byte (rw h refl) (rw h refl) (rw h refl) (rw h refl)
    (λ x y z. rw (z, x, y, h) refl)

pub written_closes : (bytes behind : Bytes)
    → closed_length false ((written_text bytes ++ quote ∷ []) ++ behind) ≡ Some (length (written_text bytes ++ quote ∷ []))
written_closes [] behind = refl
written_closes (byte ∷ bytes) behind =
    let more = byte_goes_on byte ((written_text bytes ++ quote ∷ []) ++ behind) (written_text bytes ++ quote ∷ []) (written_closes bytes behind) in
    let front : (written_byte byte ++ written_text bytes) ++ quote ∷ [] ≡ written_byte byte ++ (written_text bytes ++ quote ∷ []) =
    append_assoc (written_byte byte) (written_text bytes) (quote ∷ []) in
    rw (front, append_assoc (written_byte byte) (written_text bytes ++ quote ∷ []) behind) more

byte_escapes : (byte : ℕ) (rest : Bytes) → first_bad_escape false rest ≡ None → first_bad_escape false (written_byte byte ++ rest) ≡ None
byte_escapes byte rest h =
    each_written (λ b w. first_bad_escape false (w ++ rest) ≡ None) byte (rw h refl) (rw h refl) (rw h refl) (rw h refl) (λ x y z. rw (y, h) refl)

pub written_escapes : (bytes : Bytes) → first_bad_escape false (written_text bytes ++ quote ∷ []) ≡ None
written_escapes [] = refl
written_escapes (byte ∷ bytes) =
    rw (append_assoc (written_byte byte) (written_text bytes) (quote ∷ [])) (byte_escapes byte (written_text bytes ++ quote ∷ []) (written_escapes bytes))

-- ---- so it is a token

pub quoted_means : (bytes : Bytes) → meaning_of Form.Quoted (quoted_text bytes) ≡ Ok (Some Lexeme.Text)
quoted_means bytes = ap quoted_meaning (written_escapes bytes)

pub quoted_is_first : (bytes behind : Bytes)
    → IsFirst (quoted_text bytes ++ behind) (record { form = Form.Quoted; bytes = quoted_text bytes }) × (meaning_of Form.Quoted (quoted_text bytes) ≡ Ok (Some Lexeme.Text))
quoted_is_first bytes behind =
    let inside : Bytes = written_text bytes ++ quote ∷ [] in
    let first = first_is quote (inside ++ behind) Form.Quoted (length inside) refl (written_closes bytes behind) in
    let P : Bytes → Type 0 = λ front. IsFirst (quote ∷ (inside ++ behind)) (record { form = Form.Quoted; bytes = quote ∷ front }) in
    (subst P (take_at inside behind (length inside) refl) first, quoted_means bytes)

piece_at-quoted : (bytes behind : Bytes) → piece_at (quoted_text bytes ++ behind) ≡ Piece.Found Lexeme.Text (length (quoted_text bytes))
piece_at-quoted bytes behind =
    let inside : Bytes = written_text bytes ++ quote ∷ [] in
    piece-is quote (inside ++ behind) Form.Quoted (length inside) refl (written_closes bytes behind)
    ∙ ap (λ (front : Bytes). piece_of (suc (length inside)) (quoted_meaning (first_bad_escape false front))) (take_at inside behind (length inside) refl)
    ∙ ap (λ (bad : Option ℕ). piece_of (suc (length inside)) (quoted_meaning bad)) (written_escapes bytes)

cut_from-none : (room at : ℕ) (text : Bytes) → text ≡ [] → cut_from room at text ≡ Ok []
cut_from-none zero at text e = refl
cut_from-none (suc room) at text e = rw e refl

pub quoted_is_one_token : (bytes : Bytes) → IsText (quoted_text bytes)
    → tokens_of (quoted_text bytes) ≡ Ok (record { lexeme = Lexeme.Text; span = record { start = 0; len = length (quoted_text bytes) } } ∷ [])
quoted_is_one_token bytes is =
    let inside : Bytes = written_text bytes ++ quote ∷ [] in
    let piece : piece_at (quote ∷ inside) ≡ Piece.Found Lexeme.Text (suc (length inside)) =
    ap piece_at (sym (append-nil (quote ∷ inside))) ∙ piece_at-quoted bytes [] in
    let rest : drop (length inside) inside ≡ [] = ap (drop (length inside)) (sym (append-nil inside)) ∙ drop_at inside [] (length inside) refl in
    let none = cut_from-none (length inside) (0 + suc (length inside)) (drop (length inside) inside) rest in
    tokens_of-text (quoted_text bytes) is.0 is.1
    ∙ ap (after_piece 0 (λ len. cut_from (length inside) (0 + len) (drop len (quote ∷ inside)))) piece
    ∙ rw none refl

-- ---- and says the bytes

-- the bytes between the quotes
inside_of : (rest w : Bytes) → take (length w + 1) rest ≡ w ++ quote ∷ [] → take (length w) rest ≡ w
inside_of rest w e =
    sym (take-take (length w) (length w + 1) rest (omega arith)) ∙ ap (take (length w)) e ∙ take_at w (quote ∷ []) (length w) refl

behind_quote : (text w : Bytes) → take (suc (length w + 1)) text ≡ quote ∷ (w ++ quote ∷ []) → take (length w) (drop 1 text) ≡ w
behind_quote [] w e = cc
behind_quote (byte ∷ rest) w e = inside_of rest w (ap (drop 1) e)

between : (text w : Bytes) (start len : ℕ) → start + len ≤ length text → take len (drop start text) ≡ quote ∷ (w ++ quote ∷ [])
    → take (len - 2) (drop (start + 1) text) ≡ w
between text w start len within e =
    let whole : length (take len (drop start text)) ≡ len = length-take-le len (drop start text) (simp length-drop (omega arith)) in
    let size : len ≡ suc (length w + 1) = sym whole ∙ ap length e ∙ ap suc (length-append w (quote ∷ [])) in
    let two : suc (length w + 1) - 2 ≡ length w = omega arith in
    rw (size, two, ← drop-drop 1 start text) (behind_quote (drop start text) w (ap (λ n. take n (drop start text)) (sym size) ∙ e))

pub quoted_says : (text bytes : Bytes) (token : Token) → LiesIn text token.span
    → bytes_of text token ≡ quoted_text bytes → content_of text token ≡ bytes
quoted_says text bytes token within e =
    ap (resolved false) (between text (written_text bytes) token.span.start token.span.len within e) ∙ written_says bytes
