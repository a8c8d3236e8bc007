-- The places at which bytes are cut, found by one walk over the bytes.
use Rattle.std.proofs.Common.{◌≡◌, ℕ, ◌+◌, ◌%◌, ◌==◌, ◌&&◌, Bool, true, false, not, if◌then◌else◌, List, [], ◌∷◌, ◌++◌, length, map, take, drop, ap, refl, subst, ◌∙◌, arith, append_assoc, length-append}
use Rattle.std.specs.Prelude.{cond}
use Rattle.std.specs.List.{filter, range_with_len}
use Rattle.std.proofs.lemmas.Bool.Decides.{nat_tests}
use Rattle.std.proofs.lemmas.List.{get_or_at}
use Rattle.std.proofs.lemmas.List.Sums.{sum_by-append}
use Rattle.nl_fixed.specs.Nouns.{Bytes}
use Rattle.nl_table.specs.Lines.{quote, line_feed}
use Rattle.nl_table.specs.Pieces.{quotes_in, ends_at, ends}

-- the places behind line feeds outside of quotes, where the first byte has a place and stands outside of quotes or not
abbrev pub ends_from : Bool → ℕ → Bytes → List ℕ
ends_from outside at [] = []
ends_from outside at (byte ∷ rest) =
    if byte == quote then ends_from (not outside) (at + 1) rest
    else if outside && (byte == line_feed) then (at + 1) ∷ ends_from outside (at + 1) rest
    else ends_from outside (at + 1) rest

-- whether what follows bytes stands outside of quotes
abbrev pub after : Bool → Bytes → Bool
after outside [] = outside
after outside (byte ∷ rest) = after (if byte == quote then not outside else outside) rest

pub take_front : (front rest : Bytes) → take (length front) (front ++ rest) ≡ front
take_front [] rest = refl
take_front (byte ∷ front) rest = ap (λ bytes. byte ∷ bytes) (take_front front rest)

pub drop_front : (front rest : Bytes) → drop (length front) (front ++ rest) ≡ rest
drop_front [] rest = refl
drop_front (byte ∷ front) rest = drop_front front rest

parity_flips : (quotes : ℕ) → ((quotes + 1) % 2 == 0) ≡ not (quotes % 2 == 0)
parity_flips quotes = grind arith

not_both : (byte : ℕ) → (byte == quote) ≡ true → (byte == line_feed) ≡ true → ⊥
not_both byte q f = grind (arith, nat_tests)

-- one place: what is found at it, and then what is found behind it
one_place : (at quotes more byte : ℕ) (rest : Bytes) (found : Bool) (further : List ℕ)
    → found ≡ ((byte == line_feed) && (quotes % 2 == 0)) → more ≡ quotes + cond (byte == quote) 1 0
    → map (λ place. place + 1) further ≡ ends_from (more % 2 == 0) (at + 1) rest
    → map (λ place. place + 1) (cond found (at ∷ further) further) ≡ ends_from (quotes % 2 == 0) at (byte ∷ rest)
one_place at quotes more byte rest found further here count later =
    by (byte == quote) (byte == line_feed) (quotes % 2 == 0) refl refl refl
  where
    flipped : (byte == quote) ≡ true → map (λ place. place + 1) further ≡ ends_from (not (quotes % 2 == 0)) (at + 1) rest
    flipped q = later ∙ ap (λ n. ends_from (n % 2 == 0) (at + 1) rest) (count ∙ ap (λ b. quotes + cond b 1 0) q) ∙ ap (λ o. ends_from o (at + 1) rest) (parity_flips quotes)

    kept : (byte == quote) ≡ false → map (λ place. place + 1) further ≡ ends_from (quotes % 2 == 0) (at + 1) rest
    kept q = later ∙ ap (λ n. ends_from (n % 2 == 0) (at + 1) rest) (count ∙ ap (λ b. quotes + cond b 1 0) q ∙ omega arith)

    by : (q f o : Bool) → (byte == quote) ≡ q → (byte == line_feed) ≡ f → (quotes % 2 == 0) ≡ o
        → map (λ place. place + 1) (cond found (at ∷ further) further) ≡ ends_from (quotes % 2 == 0) at (byte ∷ rest)
    by true true o q f e = absurd (not_both byte q f)
    by true false o q f e = rw (here, f, q) (flipped q)
    by false true true q f e = rw (here, f, q, e) (ap (λ places. (at + 1) ∷ places) (kept q ∙ ap (λ o. ends_from o (at + 1) rest) e))
    by false true false q f e = rw (here, f, q, e) (kept q ∙ ap (λ o. ends_from o (at + 1) rest) e)
    by false false true q f e = rw (here, f, q, e) (kept q ∙ ap (λ o. ends_from o (at + 1) rest) e)
    by false false false q f e = rw (here, f, q, e) (kept q ∙ ap (λ o. ends_from o (at + 1) rest) e)

here_behind : (done : Bytes) (byte : ℕ) (rest : Bytes) → ends_at (done ++ byte ∷ rest) (length done) ≡ ((byte == line_feed) && (quotes_in done % 2 == 0))
here_behind done byte rest =
    ap (λ b. (b == line_feed) && (quotes_in (take (length done) (done ++ byte ∷ rest)) % 2 == 0)) (get_or_at done byte rest 0 (length done) refl)
    ∙ ap (λ front. (byte == line_feed) && (quotes_in front % 2 == 0)) (take_front done (byte ∷ rest))

-- the places that are found in bytes behind others
abbrev AreFound : Bytes → ℕ → Bytes → ℕ → Bytes → Type 0
AreFound all begin done at bytes =
    map (λ place. place + 1) (filter (ends_at all) (range_with_len begin (length bytes))) ≡ ends_from (quotes_in done % 2 == 0) at bytes

later_behind : (done : Bytes) (byte : ℕ) (rest : Bytes)
    → AreFound ((done ++ byte ∷ []) ++ rest) (length (done ++ byte ∷ [])) (done ++ byte ∷ []) (length (done ++ byte ∷ [])) rest
    → AreFound (done ++ byte ∷ rest) (length done + 1) (done ++ byte ∷ []) (length done + 1) rest
later_behind done byte rest found =
    subst (λ (all : Bytes). AreFound all (length done + 1) (done ++ byte ∷ []) (length done + 1) rest) (append_assoc done (byte ∷ []) rest)
    (subst (λ (n : ℕ). AreFound ((done ++ byte ∷ []) ++ rest) n (done ++ byte ∷ []) n rest) (length-append done (byte ∷ [])) found)

pub nothing_and : (n : ℕ) → 0 + n ≡ n
nothing_and n = omega arith

ends_behind : (done bytes : Bytes) → AreFound (done ++ bytes) (length done) done (length done) bytes
ends_behind done [] = refl
ends_behind done (byte ∷ rest) =
    one_place (length done) (quotes_in done) (quotes_in (done ++ byte ∷ [])) byte rest (ends_at (done ++ byte ∷ rest) (length done))
    (filter (ends_at (done ++ byte ∷ rest)) (range_with_len (length done + 1) (length rest)))
    (here_behind done byte rest)
    (sum_by-append (λ b. cond (b == quote) 1 0) done (byte ∷ []) ∙ ap (λ n. quotes_in done + n) (nothing_and (cond (byte == quote) 1 0)))
    (later_behind done byte rest (ends_behind (done ++ byte ∷ []) rest))

pub ends_are : (bytes : Bytes) → ends bytes ≡ ends_from true 0 bytes
ends_are bytes = ends_behind [] bytes
