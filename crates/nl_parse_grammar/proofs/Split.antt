-- UTF-8 between ASCII bytes, and the content of a text.
use Rattle.std.proofs.Common.{◌≡◌, ℕ, suc, ◌+◌, ◌<◌, ◌==◌, Bool, true, false, ◌&&◌, if◌then◌else◌, List, [], ◌∷◌, ◌++◌, Option, Some, None, length, get_or, refl, sym, ◌∙◌, ap, subst, arith, append_assoc, append-nil, length-append}
use Rattle.std.proofs.Math.Seq.{take-append_seam, drop-append-add}
use Rattle.std.proofs.lemmas.Bool.Decides.{nat_tests, Decides-eqb}
use Rattle.std.proofs.lemmas.Str.{IsUtf8-take, IsUtf8-drop, IsUtf8-append, IsUtf8-from_ascii, IsCharBoundary-before_ascii, IsCharBoundary-after_ascii}
use Rattle.std.proofs.lemmas.Str.Ascii.{IsAscii-cons, IsAscii-nil}
use Rattle.std.specs.Option.{option_map}
use Rattle.std.specs.Str.{IsUtf8}
use Rattle.std.specs.Cmp.{second_so}
use Rattle.nl_scan.specs.Forms.{quote, backslash, is_in_line, is_none_left, is_closed, is_escape, first_bad_escape}
use Rattle.nl_scan.specs.Contents.{escaped, resolved}

get_seam : (xs ys : List ℕ) (b d : ℕ) → get_or (xs ++ b ∷ ys) (length xs) d ≡ b
get_seam [] ys b d = refl
get_seam (x ∷ xs) ys b d = get_seam xs ys b d

-- an ASCII byte parts UTF-8
pub split : (xs ys : List ℕ) (b : ℕ) → b < 128 → IsUtf8 (xs ++ b ∷ ys) → IsUtf8 xs × IsUtf8 ys
split xs ys b small h =
    let within : length xs < length (xs ++ b ∷ ys) = omega (arith, length-append xs (b ∷ ys)) in
    let here : get_or (xs ++ b ∷ ys) (length xs) 0 < 128 = omega (arith, get_seam xs ys b 0, small) in (
      subst IsUtf8 (take-append_seam xs (b ∷ ys)) (IsUtf8-take (xs ++ b ∷ ys) (length xs) h (IsCharBoundary-before_ascii (xs ++ b ∷ ys) (length xs) within here)),
      subst IsUtf8 (drop-append-add xs (b ∷ ys) 1) (IsUtf8-drop (xs ++ b ∷ ys) (length xs + 1) h (IsCharBoundary-after_ascii (xs ++ b ∷ ys) (length xs) h within here)),
    )

one_byte : (b : ℕ) → b < 128 → IsUtf8 (b ∷ [])
one_byte b h = IsUtf8-from_ascii (b ∷ []) (IsAscii-cons b [] h IsAscii-nil)

-- an escape is ASCII, and so is what it stands for
escape_small : (b : ℕ) → is_escape b ≡ true → b < 128
escape_small b h = grind (arith, nat_tests, h)

escaped_small : (b : ℕ) → b < 128 → escaped b < 128
escaped_small b h = grind (arith, nat_tests, h)

none_map : (o : Option ℕ) → option_map suc o ≡ None → o ≡ None
none_map (Some n) h = cc
none_map None h = refl

-- a byte that a backslash escapes, and what follows it
escape_first : (b : ℕ) (bs : List ℕ) → first_bad_escape true (b ∷ bs) ≡ None → (is_escape b ≡ true) × (first_bad_escape false bs ≡ None)
escape_first b bs h = at (is_escape b) refl h
  where
    at : (x : Bool) → is_escape b ≡ x → (if x then option_map suc (first_bad_escape false bs) else Some 0) ≡ None → (is_escape b ≡ true) × (first_bad_escape false bs ≡ None)
    at true e h = (e, none_map (first_bad_escape false bs) h)
    at false e h = cc

backslash_is : (b : ℕ) → (b == backslash) ≡ true → b ≡ backslash
backslash_is b h = (Decides-eqb b backslash).0 h

-- bytes behind others, or behind a backslash that goes with the first of them
abbrev Fits : Bool → List ℕ → List ℕ → Type 0
Fits false acc bs = IsUtf8 (acc ++ bs)
Fits true acc bs = IsUtf8 acc × IsUtf8 bs

resolves_from : (bs acc : List ℕ) (behind : Bool) → first_bad_escape behind bs ≡ None → Fits behind acc bs → IsUtf8 (acc ++ resolved behind bs)
resolves_from [] acc false h u = u
resolves_from [] acc true h u = subst IsUtf8 (sym (append-nil acc)) u.0
resolves_from (b ∷ bs) acc false h u = at (b == backslash) refl (none_map _ h) (λ more x f v. resolves_from bs more x f v)
  where
    at : (x : Bool) → (b == backslash) ≡ x → first_bad_escape x bs ≡ None
        → ((more : List ℕ) (x : Bool) → first_bad_escape x bs ≡ None → Fits x more bs → IsUtf8 (more ++ resolved x bs))
        → IsUtf8 (acc ++ (if x then resolved true bs else b ∷ resolved false bs))
    at true e f rest = rest acc true f (split acc bs b (omega (arith, backslash_is b e)) u)
    at false e f rest = subst IsUtf8 (append_assoc acc (b ∷ []) (resolved false bs)) (rest (acc ++ b ∷ []) false f (subst IsUtf8 (sym (append_assoc acc (b ∷ []) bs)) u))
resolves_from (b ∷ bs) acc true h u =
    let e = escape_first b bs h in
    let small = escape_small b e.0 in
    IsUtf8-append acc (escaped b ∷ resolved false bs) u.0
    (IsUtf8-append (escaped b ∷ []) (resolved false bs) (one_byte (escaped b) (escaped_small b small))
    (resolves_from bs [] false e.1 (split [] bs b small u.1).1))

-- Escapes that are resolved leave UTF-8 what is UTF-8.
pub resolves : (bs : List ℕ) → first_bad_escape false bs ≡ None → IsUtf8 bs → IsUtf8 (resolved false bs)
resolves bs h u = resolves_from bs [] false h u

-- bytes that a quote closes
pub closed_is : (bs : List ℕ) (behind : Bool) → is_closed behind bs ≡ true → (inner : List ℕ) × (bs ≡ inner ++ quote ∷ [])
closed_is [] false h = cc
closed_is [] true h = cc
closed_is (b ∷ bs) true h = let r = closed_is bs false (second_so (is_in_line b) _ h) in (b ∷ r.0, ap (λ xs. b ∷ xs) r.1)
closed_is (b ∷ bs) false h = at (b == quote) refl h (λ x f. closed_is bs x f)
  where
    last : (bs : List ℕ) → is_none_left bs ≡ true → bs ≡ []
    last [] h = refl
    last (b ∷ bs) h = cc

    at : (x : Bool) → (b == quote) ≡ x → (if x then is_none_left bs else is_in_line b && is_closed (b == backslash) bs) ≡ true
        → ((x : Bool) → is_closed x bs ≡ true → (inner : List ℕ) × (bs ≡ inner ++ quote ∷ [])) → (inner : List ℕ) × (b ∷ bs ≡ inner ++ quote ∷ [])
    at true e h more = ([], ap (λ c. c ∷ bs) ((Decides-eqb b quote).0 e) ∙ ap (λ xs. quote ∷ xs) (last bs h))
    at false e h more = let r = more (b == backslash) (second_so (is_in_line b) _ h) in (b ∷ r.0, ap (λ xs. b ∷ xs) r.1)

-- what has no bad escape has none in front
pub front_escapes : (xs ys : List ℕ) (behind : Bool) → first_bad_escape behind (xs ++ ys) ≡ None → first_bad_escape behind xs ≡ None
front_escapes [] ys false h = refl
front_escapes [] ys true h = refl
front_escapes (b ∷ xs) ys false h = ap (option_map suc) (front_escapes xs ys (b == backslash) (none_map _ h))
front_escapes (b ∷ xs) ys true h =
    let e = escape_first b (xs ++ ys) h in
    ap (λ (x : Bool). if x then option_map suc (first_bad_escape false xs) else Some 0) e.0 ∙ ap (option_map suc) (front_escapes xs ys false e.1)
