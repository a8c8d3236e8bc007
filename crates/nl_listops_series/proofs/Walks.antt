-- Walks over lists of values that look for some of them.
use Rattle.std.proofs.Common.{◌≡◌, ℕ, zero, suc, ◌+◌, ◌<◌, ◌≤◌, Bool, true, false, ◌||◌, not, cond, nat_lt, position, Option, Some, None, List, [], ◌∷◌, length, map, take, drop, get_or, refl, sym, ap, ◌∙◌, arith}
use Rattle.std.specs.List.{list_any, filter_map, cons_option, position_or_len}
use Rattle.std.proofs.lemmas.Bool.Decides.{nat_tests}
use Rattle.std.proofs.lemmas.List.{drop_more, length-map, take_all}

pub any_found : {A X : Type 0} (f : A → X) (test : X → Bool) (values : List A) (i : ℕ) (v : A) → i < length values → v ≡ get_or values i v → test (f v) ≡ true → list_any test (map f values) ≡ true
any_found f test [] i v h is passes = absurd (omega arith)
any_found f test (value ∷ values) zero v h is passes = ap (λ b. b || list_any test (map f values)) (ap (λ x. test (f x)) (sym is) ∙ passes)
any_found f test (value ∷ values) (suc i) v h is passes = ap (λ b. test (f value) || b) (any_found f test values i v (omega arith) is passes) ∙ or_true (test (f value))
  where
    or_true : (b : Bool) → (b || true) ≡ true
    or_true true = refl
    or_true false = refl

pub none_more : {A X Y : Type 0} (f : A → X) (h : X → Option Y) (values : List A) (i : ℕ) (v : A) → i < length values → v ≡ get_or values i v → h (f v) ≡ None →
    filter_map h (map f (take (i + 1) values)) ≡ filter_map h (map f (take i values))
none_more f h [] i v b is none = absurd (omega arith)
none_more f h (value ∷ values) zero v b is none = ap (λ o. cons_option o []) (ap (λ x. h (f x)) (sym is) ∙ none)
none_more f h (value ∷ values) (suc i) v b is none =
    ap (λ n. filter_map h (map f (take n (value ∷ values)))) (next i) ∙ ap (cons_option (h (f value))) (none_more f h values i v (omega arith) is none)
  where
    next : (n : ℕ) → suc n + 1 ≡ suc (n + 1)
    next n = omega arith

-- where those in front give nothing, what a value gives comes first
pub first_given : {A X Y : Type 0} (f : A → X) (h : X → Option Y) (values : List A) (i : ℕ) (v : A) (y : Y) → i < length values → v ≡ get_or values i v →
    filter_map h (map f (take i values)) ≡ [] → h (f v) ≡ Some y → (rest : List Y) × (filter_map h (map f values) ≡ y ∷ rest)
first_given f h [] i v y b is none given = absurd (omega arith)
first_given f h (value ∷ values) zero v y b is none given =
    (filter_map h (map f values), ap (λ o. cons_option o (filter_map h (map f values))) (ap (λ x. h (f x)) (sym is) ∙ given))
first_given f h (value ∷ values) (suc i) v y b is none given =
    let parts = neither (h (f value)) (filter_map h (map f (take i values))) none in
    let later = first_given f h values i v y (omega arith) is parts.1 given in
    (later.0, ap (λ o. cons_option o (filter_map h (map f values))) parts.0 ∙ later.1)
  where
    neither : {Y : Type 0} (o : Option Y) (ys : List Y) → cons_option o ys ≡ [] → (o ≡ None) × (ys ≡ [])
    neither None ys e = (refl, e)
    neither (Some y) ys e = cc

-- ---- the first place that passes

pub from_start : {X : Type 0} (test : X → Bool) (xs : List X) → position_or_len test xs ≡ 0 + position_or_len test xs
from_start test xs = omega arith

pub passes_at : {A X : Type 0} (f : A → X) (test : X → Bool) (values : List A) (i : ℕ) (v : A) → i < length values → v ≡ get_or values i v → test (f v) ≡ true →
    position_or_len test (map f (drop i values)) ≡ 0
passes_at f test values i v h is passes =
    ap (λ vs. position_or_len test (map f vs)) (drop_more values i v h)
    ∙ ap (λ b. cond (not b) (1 + position_or_len test (map f (drop (i + 1) values))) 0) (ap (λ x. test (f x)) (sym is) ∙ passes)

pub fails_at : {A X : Type 0} (f : A → X) (test : X → Bool) (values : List A) (i : ℕ) (v : A) → i < length values → v ≡ get_or values i v → test (f v) ≡ false →
    position_or_len test (map f (drop i values)) ≡ 1 + position_or_len test (map f (drop (i + 1) values))
fails_at f test values i v h is fails =
    ap (λ vs. position_or_len test (map f vs)) (drop_more values i v h)
    ∙ ap (λ b. cond (not b) (1 + position_or_len test (map f (drop (i + 1) values))) 0) (ap (λ x. test (f x)) (sym is) ∙ fails)

pub found_at : {X : Type 0} (test : X → Bool) (xs : List X) (i : ℕ) → position_or_len test xs ≡ i → i < length xs → position test xs ≡ Some i
found_at test xs i is h =
    let inside : nat_lt (position_or_len test xs) (length xs) ≡ true = grind (arith, nat_tests, is) in
    ap (λ b. cond b (Some (position_or_len test xs)) None) inside ∙ ap Some is

pub found_never : {X : Type 0} (test : X → Bool) (xs : List X) → length xs ≤ position_or_len test xs → position test xs ≡ None
found_never test xs h =
    let outside : nat_lt (position_or_len test xs) (length xs) ≡ false = grind (arith, nat_tests) in
    ap (λ b. cond b (Some (position_or_len test xs)) None) outside

pub mapped_below : {A X : Type 0} (f : A → X) (values : List A) (i : ℕ) → i < length values → i < length (map f values)
mapped_below f values i h = let long = length-map values f in omega arith

-- the walk has gone past all
pub past_all : {A X : Type 0} (f : A → X) (test : X → Bool) (values : List A) (i : ℕ) → length values ≤ i →
    position_or_len test (map f values) ≡ i + position_or_len test (map f (drop i values)) → length (map f values) ≤ position_or_len test (map f values)
past_all f test values i h is = let long = length-map values f in omega arith

-- the walk has taken all
pub all_taken : {A X : Type 0} (f : A → X) (values : List A) (i : ℕ) → length values ≤ i → take i (map f values) ≡ map f values
all_taken f values i h = let long = length-map values f in take_all i (map f values) (omega (arith, h, long))
