-- The tokens of a text stand in order in it.
use Rattle.std.proofs.Common.{◌≡◌, ℕ, zero, suc, ◌+◌, ◌≤◌, ◌<◌, List, [], ◌∷◌, length, drop, get_or, slice_get, Some, Result, Ok, Err, refl, subst, arith, length-drop, zero-add, Bool, true, false, cond, nat_lt}
use Rattle.std.specs.Str.{is_utf8}
use Rattle.std.proofs.lemmas.Bool.{ltb-false}
use Rattle.std.proofs.lemmas.Str.{IsUtf8-from_is_utf8}
use Rattle.std.proofs.lemmas.Option.{slice_get_within, get_or_from_slice_get}
use Rattle.nl_scan.specs.Texts.{LiesIn}
use Rattle.nl_scan.specs.declared.token.Lexeme.{Lexeme}
use Rattle.nl_scan.specs.declared.token.Token.{Token}
use Rattle.nl_scan.specs.declared.pieces.Piece.{Piece}
use Rattle.nl_scan.specs.Faults.{ScanFault, text_limit}
use Rattle.nl_scan.specs.Forms.{least_length}
use Rattle.nl_scan.specs.Tokens.{tokens_of, IsText, IsTokenOf, AreInOrder}
use Rattle.nl_scan.specs.inner.Pieces.{cut_from, after_piece, token_first, piece_at, IsPieceWithin}
use Rattle.nl_scan.proofs.Cutting.{least_length-some, piece_at-within}

-- tokens in order from a place on are so from an earlier one on
AreInOrder-earlier : (earlier from end : ℕ) (tokens : List Token) → earlier ≤ from → AreInOrder from end tokens → AreInOrder earlier end tokens
AreInOrder-earlier earlier from end [] le h = omega arith
AreInOrder-earlier earlier from end (token ∷ tokens) le h = (omega (arith, h.0), h.1, h.2)

-- the places from which and to which tokens are in order
pub AreInOrder-le : (from end : ℕ) (tokens : List Token) → AreInOrder from end tokens → from ≤ end
AreInOrder-le from end [] h = h
AreInOrder-le from end (token ∷ tokens) h =
    let le = AreInOrder-le (token.span.start + token.span.len) end tokens h.2 in
    omega (arith, h.0)

-- each token lies before the end
pub AreInOrder-at : (from end : ℕ) (tokens : List Token) (k : ℕ) (d : Token) → AreInOrder from end tokens → k < length tokens
    → (get_or tokens k d).span.start + (get_or tokens k d).span.len ≤ end
AreInOrder-at from end [] k d h below = absurd (omega arith)
AreInOrder-at from end (token ∷ tokens) zero d h below = AreInOrder-le (token.span.start + token.span.len) end tokens h.2
AreInOrder-at from end (token ∷ tokens) (suc k) d h below = AreInOrder-at (token.span.start + token.span.len) end tokens k d h.2 (omega arith)

-- each token has its least length
pub AreInOrder-least : (from end : ℕ) (tokens : List Token) (k : ℕ) (d : Token) → AreInOrder from end tokens → k < length tokens
    → least_length (get_or tokens k d).lexeme ≤ (get_or tokens k d).span.len
AreInOrder-least from end [] k d h below = absurd (omega arith)
AreInOrder-least from end (token ∷ tokens) zero d h below = h.1
AreInOrder-least from end (token ∷ tokens) (suc k) d h below = AreInOrder-least (token.span.start + token.span.len) end tokens k d h.2 (omega arith)

-- a token before others, where there are tokens
record Split (token : Token) (r : Result (List Token) ScanFault) (tokens : List Token) : Type 0 where
  more : List Token
  was : r ≡ Ok more
  is : tokens ≡ token ∷ more

token_first-ok : (token : Token) (r : Result (List Token) ScanFault) (tokens : List Token) → token_first token r ≡ Ok tokens → Split token r tokens
token_first-ok token (Ok more) tokens e = record { more = more; was = refl; is = cc }
token_first-ok token (Err fault) tokens e = cc

after_piece-order : (at len : ℕ) (next : ℕ → Result (List Token) ScanFault) (piece : Piece) (tokens : List Token) → IsPieceWithin len piece
    → ((n : ℕ) (more : List Token) → 0 < n → n ≤ len → next n ≡ Ok more → AreInOrder (at + n) (at + len) more)
    → after_piece at next piece ≡ Ok tokens → AreInOrder at (at + len) tokens
after_piece-order at len next (Piece.Gap n) tokens within rest e =
    AreInOrder-earlier at (at + n) (at + len) tokens (omega arith) (rest n tokens within.0 within.1 e)
after_piece-order at len next (Piece.Found lexeme n) tokens within rest e =
    let split = token_first-ok _ (next n) tokens e in
    let some : 0 < n = omega (arith, least_length-some lexeme, within.0) in
    rw split.is (omega arith, within.0, rest n split.more some within.1 split.was)
after_piece-order at len next (Piece.Bad kind n) tokens within rest e = cc

cut_from-order : (room at : ℕ) (text : List ℕ) (tokens : List Token) → cut_from room at text ≡ Ok tokens → AreInOrder at (at + length text) tokens
cut_from-order zero at text [] e = omega arith
cut_from-order zero at text (token ∷ tokens) e = cc
cut_from-order (suc room) at [] [] e = omega arith
cut_from-order (suc room) at [] (token ∷ tokens) e = cc
cut_from-order (suc room) at (byte ∷ rest) tokens e =
    after_piece-order at (suc (length rest)) _ (piece_at (byte ∷ rest)) tokens (piece_at-within byte rest)
    (λ n more some within is.
    let behind = cut_from-order room (at + n) (drop n (byte ∷ rest)) more is in
    let end : at + n + length (drop n (byte ∷ rest)) ≡ at + suc (length rest) = simp length-drop (omega arith) in
    let P : ℕ → Type 0 = λ last. AreInOrder (at + n) last more in
    subst P end behind)
    e

-- the tokens of a text lie in it, in order
pub cut_from-in_order : (text : List ℕ) (tokens : List Token) → cut_from (length text) 0 text ≡ Ok tokens → AreInOrder 0 (length text) tokens
cut_from-in_order text tokens e =
    let P : ℕ → Type 0 = λ last. AreInOrder 0 last tokens in
    subst P (zero-add (length text)) (cut_from-order (length text) 0 text tokens e)

-- the same of the tokens of a text
record IsCutIn (text : List ℕ) (tokens : List Token) : Type 0 where
  cut : cut_from (length text) 0 text ≡ Ok tokens

cut_of : (a b : Bool) (text : List ℕ) (tokens : List Token) (long not_text : ScanFault) → cond a (Err long) (cond b (cut_from (length text) 0 text) (Err not_text)) ≡ Ok tokens → IsCutIn text tokens
cut_of true b text tokens long not_text e = cc
cut_of false true text tokens long not_text e = record { cut = e }
cut_of false false text tokens long not_text e = cc

pub tokens_of-in_order : (text : List ℕ) (tokens : List Token) → tokens_of text ≡ Ok tokens → AreInOrder 0 (length text) tokens
unfolding tokens_of
tokens_of-in_order text tokens e = cut_from-in_order text tokens (cut_of (nat_lt text_limit (length text)) (is_utf8 text) text tokens _ _ e).cut

-- a token of a text has its least length and lies in the text
pub token_in : (text : List ℕ) (token : Token) → IsTokenOf text token → (least_length token.lexeme ≤ token.span.len) × (token.span.start + token.span.len ≤ length text)
token_in text token (tokens, k, is, there) =
    let order = tokens_of-in_order text tokens is in
    let same = get_or_from_slice_get tokens k token token there in
    let within = slice_get_within tokens k token there in
    let P : Token → Type 0 = λ t. (least_length t.lexeme ≤ t.span.len) × (t.span.start + t.span.len ≤ length text) in
    subst P same (AreInOrder-least 0 (length text) tokens k token order within, AreInOrder-at 0 (length text) tokens k token order within)

pub text_in : (text : List ℕ) (token : Token) → token.lexeme ≡ Lexeme.Text → IsTokenOf text token → (2 ≤ token.span.len) × (token.span.start + token.span.len ≤ length text)
text_in text token is of =
    let both = token_in text token of in
    let two = rw is at both.0 in (two, both.1)

pub token_lies_in : (text : List ℕ) (token : Token) → IsTokenOf text token → LiesIn text token.span
token_lies_in text token of = (token_in text token of).1

-- so does each of tokens that are in order
pub tokens_lie_in : (text : List ℕ) (tokens : List Token) (k : ℕ) (token : Token) → AreInOrder 0 (length text) tokens
    → slice_get tokens k ≡ Some token → LiesIn text token.span
tokens_lie_in text tokens k token order there =
    let P : Token → Type 0 = λ t. LiesIn text t.span in
    subst P (get_or_from_slice_get tokens k token token there) (AreInOrder-at 0 (length text) tokens k token order (slice_get_within tokens k token there))

-- a text that has tokens is neither too long nor anything but text
text_of-some : (a b : Bool) (text : List ℕ) (tokens : List Token) (long not_text : ScanFault) → nat_lt text_limit (length text) ≡ a → is_utf8 text ≡ b
    → cond a (Err long) (cond b (cut_from (length text) 0 text) (Err not_text)) ≡ Ok tokens → IsText text
text_of-some true b text tokens long not_text h u e = cc
text_of-some false true text tokens long not_text h u e = (ltb-false text_limit (length text) h, IsUtf8-from_is_utf8 text u)
text_of-some false false text tokens long not_text h u e = cc

pub tokens_of-is_text : (text : List ℕ) (tokens : List Token) → tokens_of text ≡ Ok tokens → IsText text
unfolding tokens_of
tokens_of-is_text text tokens e = text_of-some (nat_lt text_limit (length text)) (is_utf8 text) text tokens _ _ refl refl e
