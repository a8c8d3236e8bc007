-- Texts that are written piece by piece.
use Rattle.std.specs.Prelude.{◌≡◌, ℕ, zero, ◌+◌, ◌<◌, ◌≤◌, true, List, [], ◌∷◌, ◌++◌, length, map, take, refl}
use Rattle.std.proofs.Common.{arith, get_or, suc, ap, sym, ◌∙◌, length-append, append_assoc}
use Rattle.std.specs.List.{flat_map, join_with_byte}
use Rattle.std.proofs.lemmas.List.{append-nil, take_all}
use Rattle.std.proofs.lemmas.Grind.{flat_map-append}
use Rattle.nl_value.specs.declared.values.Value.{Value}
use Rattle.nl_value.specs.Plain.{Plain, plains}
use Rattle.nl_value.specs.Living.{Living}
use Rattle.nl_value.specs.Text.{text_of, texts_of, space}
use Rattle.nl_value.specs.Views.{plain}
use Rattle.nl_value.proofs.MeasureLemmas.{seen_more}

-- the pieces before a place and the one there are no longer than all pieces
pub pieces_within : (f : ℕ → List ℕ) (xs : List ℕ) (i x : ℕ) → i < length xs → x ≡ get_or xs i 0 → length (flat_map f (take i xs)) + length (f x) ≤ length (flat_map f xs)
pieces_within f [] i x h e = absurd (omega (arith, h))
pieces_within f (y ∷ ys) zero x h e = omega (arith, length-append (f y) (flat_map f ys), ap (λ z. length (f z)) e)
pieces_within f (y ∷ ys) (suc i) x h e =
    omega (arith, length-append (f y) (flat_map f ys), length-append (f y) (flat_map f (take i ys)), pieces_within f ys i x (omega (arith, h)) e)

-- ---- the texts of items

-- the texts of values, each behind a space
abbrev pub spaced : Living → List Value → List ℕ
spaced w vs = flat_map (λ t. space ∷ t) (texts_of w (plains (map plain vs)))

join-cons : (x : List ℕ) (xs : List (List ℕ)) → join_with_byte space (x ∷ xs) ≡ x ++ flat_map (λ t. space ∷ t) xs
join-cons x [] = sym (append-nil x)
join-cons x (y ∷ xs) = ap (λ r. x ++ (space ∷ r)) (join-cons y xs)

texts_of-push : (w : Living) (ps : List Plain) (q : Plain) → texts_of w (plains (ps ++ q ∷ [])) ≡ texts_of w (plains ps) ++ text_of w true q ∷ []
texts_of-push w [] q = refl
texts_of-push w (p ∷ ps) q = ap (λ r. text_of w true p ∷ r) (texts_of-push w ps q)

-- the texts of a list with spaces between them
pub joined : (w : Living) (v : Value) (vs : List Value) → join_with_byte space (texts_of w (plains (map plain (v ∷ vs)))) ≡ text_of w true (plain v) ++ spaced w vs
joined w v vs = join-cons (text_of w true (plain v)) (texts_of w (plains (map plain vs)))

pub spaced_more : (w : Living) (vs : List Value) (i : ℕ) (v : Value) → i < length vs → v ≡ get_or vs i v → spaced w (take (i + 1) vs) ≡ spaced w (take i vs) ++ (space ∷ text_of w true (plain v))
spaced_more w vs i v h e =
    ap (λ (ps : List Plain). flat_map (λ t. space ∷ t) (texts_of w (plains ps))) (seen_more vs i v h e)
    ∙ ap (λ (ts : List (List ℕ)). flat_map (λ t. space ∷ t) ts) (texts_of-push w (map plain (take i vs)) (plain v))
    ∙ flat_map-append (λ t. space ∷ t) (texts_of w (plains (map plain (take i vs)))) (text_of w true (plain v) ∷ [])
    ∙ ap (λ r. spaced w (take i vs) ++ r) (append-nil (space ∷ text_of w true (plain v)))

pub spaced_within : (w : Living) (vs : List Value) (i : ℕ) (v : Value) → i < length vs → v ≡ get_or vs i v → length (spaced w (take i vs)) + 1 + length (text_of w true (plain v)) ≤ length (spaced w vs)
spaced_within w [] i v h e = absurd (omega (arith, h))
spaced_within w (u ∷ us) zero v h e =
    omega (arith, length-append (text_of w true (plain u)) (spaced w us), ap (λ (x : Value). length (text_of w true (plain x))) e)
spaced_within w (u ∷ us) (suc i) v h e =
    omega (arith, length-append (text_of w true (plain u)) (spaced w us), length-append (text_of w true (plain u)) (spaced w (take i us)), spaced_within w us i v (omega (arith, h)) e)

-- a list that splits into its first value and the others
pub split_seen : (xs vs : List Value) (v : Value) (us : List Value) (ps : List Plain) → xs ≡ v ∷ us → xs ≡ vs → map plain vs ≡ ps → map plain (v ∷ us) ≡ ps
split_seen xs vs v us ps e f g = ap (map plain) (sym e ∙ f) ∙ g

pub joined_seen : (w : Living) (v : Value) (us : List Value) (ps : List Plain) → map plain (v ∷ us) ≡ ps → join_with_byte space (texts_of w (plains ps)) ≡ text_of w true (plain v) ++ spaced w us
joined_seen w v us ps e = ap (λ (qs : List Plain). join_with_byte space (texts_of w (plains qs))) (sym e) ∙ joined w v us

-- the first text and those of the others so far, one after another
pub written_so_far : (w : Living) (old first now : List ℕ) (v : Value) (us : List Value) (i : ℕ) → first ≡ old ++ text_of w true (plain v) → now ≡ first ++ spaced w (take i us) → length us ≤ i → now ≡ old ++ (text_of w true (plain v) ++ spaced w us)
written_so_far w old first now v us i e f h =
    f ∙ ap (λ (s : List Value). first ++ spaced w s) (take_all i us h) ∙ ap (λ s. s ++ spaced w us) e ∙ append_assoc old (text_of w true (plain v)) (spaced w us)

-- a space and one more text
pub written_on : (w : Living) (first before mid now : List ℕ) (us : List Value) (i : ℕ) (u : Value) → i < length us → u ≡ get_or us i u → before ≡ first ++ spaced w (take i us) → mid ≡ before ++ space ∷ [] → now ≡ mid ++ text_of w true (plain u) → now ≡ first ++ spaced w (take (i + 1) us)
written_on w first before mid now us i u h e f k l =
    l
    ∙ ap (λ s. s ++ text_of w true (plain u)) k
    ∙ append_assoc before (space ∷ []) (text_of w true (plain u))
    ∙ ap (λ s. s ++ (space ∷ text_of w true (plain u))) f
    ∙ append_assoc first (spaced w (take i us)) (space ∷ text_of w true (plain u))
    ∙ ap (λ s. first ++ s) (sym (spaced_more w us i u h e))
