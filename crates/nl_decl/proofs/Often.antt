-- How often a name stands in a list, and what that says of lists whose names differ.
use Rattle.std.proofs.Common.{◌≡◌, ℕ, ◌+◌, ◌<◌, ◌≤◌, Bool, true, false, cond, not, ◌||◌, List, [], ◌∷◌, ◌++◌, bytes_eq, sym, ap, subst, refl, arith, inl, inr}
use Rattle.std.specs.List.{list_all, filter}
use Rattle.std.specs.Cmp.{first_so, second_so}
use Rattle.std.specs.Cmp.Derive.{both_true}
use Rattle.std.proofs.lemmas.Bool.{cases_lt, not-true}
use Rattle.std.proofs.lemmas.Slice.Eq.{bytes_eq-Decides}
use Rattle.nl_tree.specs.Vocabulary.{among, joined}
use Rattle.nl_tree.specs.Names.{are_distinct, are_apart}

abbrev pub tick : Bool → ℕ
tick true = 1
tick false = 0

-- how often the name stands in the list
abbrev pub often : List ℕ → List (List ℕ) → ℕ
often n [] = 0
often n (x ∷ xs) = tick (bytes_eq x n) + often n xs

pub tick-le : (b : Bool) → tick b ≤ 1
tick-le true = omega arith
tick-le false = omega arith

pub often-append : (n : List ℕ) (xs ys : List (List ℕ)) → often n (xs ++ ys) ≡ often n xs + often n ys
often-append n [] ys = omega arith
often-append n (x ∷ xs) ys = omega (arith, often-append n xs ys)

pub same_name : (n : List ℕ) → tick (bytes_eq n n) ≡ 1
same_name n = ap tick ((bytes_eq-Decides n n).1 refl)

-- a name that never stands in a list is not among its names, and the other way round
none_step : (b c : Bool) (k : ℕ) → tick b + k ≡ 0 → (k ≡ 0 → c ≡ false) → (b || c) ≡ false
none_step true c k h later = absurd (omega (arith, h))
none_step false c k h later = later (omega (arith, h))

pub none_often : (n : List ℕ) (xs : List (List ℕ)) → often n xs ≡ 0 → among n xs ≡ false
none_often n [] h = refl
none_often n (x ∷ xs) h = none_step (bytes_eq x n) (among n xs) (often n xs) h (none_often n xs)

often_step : (b c : Bool) (k : ℕ) → (b || c) ≡ false → (c ≡ false → k ≡ 0) → tick b + k ≡ 0
often_step true c k h later = cc
often_step false c k h later = omega (arith, later h)

pub often_none : (n : List ℕ) (xs : List (List ℕ)) → among n xs ≡ false → often n xs ≡ 0
often_none n [] h = refl
often_none n (x ∷ xs) h = often_step (bytes_eq x n) (among n xs) (often n xs) h (often_none n xs)

-- names differ where each stands once
pub distinct_by_often : (xs : List (List ℕ)) → ((n : List ℕ) → often n xs ≤ 1) → are_distinct xs ≡ true
distinct_by_often [] h = refl
distinct_by_often (x ∷ xs) h =
    let once = h x in
    let none : often x xs ≡ 0 = omega (arith, same_name x, once) in
    both_true (ap not (none_often x xs none)) (distinct_by_often xs (λ n. omega (arith, h n)))

once_step : (x n : List ℕ) (xs : List (List ℕ)) (b : Bool) → bytes_eq x n ≡ b → often x xs ≡ 0 → often n xs ≤ 1 → tick b + often n xs ≤ 1
once_step x n xs true same none later = let same_often : often n xs ≡ 0 = subst (λ m. often m xs ≡ 0) ((bytes_eq-Decides x n).0 same) none in omega (arith, same_often)
once_step x n xs false other none later = omega (arith, later)

pub often_distinct : (xs : List (List ℕ)) → are_distinct xs ≡ true → (n : List ℕ) → often n xs ≤ 1
often_distinct [] h n = omega arith
often_distinct (x ∷ xs) h n =
    let alone = not-true (among x xs) (first_so (not (among x xs)) (are_distinct xs) h) in
    once_step x n xs (bytes_eq x n) refl (often_none x xs alone) (often_distinct xs (second_so (not (among x xs)) (are_distinct xs) h) n)

-- lists are apart where no name stands in both
pub apart_by_often : (xs ys : List (List ℕ)) → ((n : List ℕ) → 0 < often n xs → often n ys ≡ 0) → are_apart xs ys ≡ true
apart_by_often [] ys h = refl
apart_by_often (x ∷ xs) ys h =
    let one = same_name x in
    both_true (ap not (none_often x ys (h x (omega (arith, one))))) (apart_by_often xs ys (λ n some. h n (omega (arith, some))))

apart_step : (x n : List ℕ) (xs ys : List (List ℕ)) (b : Bool) → bytes_eq x n ≡ b → often x ys ≡ 0 → (0 < often n xs → often n ys ≡ 0) → 0 < tick b + often n xs → often n ys ≡ 0
apart_step x n xs ys true same none later some = subst (λ m. often m ys ≡ 0) ((bytes_eq-Decides x n).0 same) none
apart_step x n xs ys false other none later some = later (omega (arith, some))

pub often_apart : (xs ys : List (List ℕ)) → are_apart xs ys ≡ true → (n : List ℕ) → 0 < often n xs → often n ys ≡ 0
often_apart [] ys h n some = absurd (omega (arith, some))
often_apart (x ∷ xs) ys h n some =
    let first = not-true (among x ys) (first_so (not (among x ys)) (list_all (λ y. not (among y ys)) xs) h) in
    apart_step x n xs ys (bytes_eq x n) refl (often_none x ys first) (often_apart xs ys (second_so (not (among x ys)) (list_all (λ y. not (among y ys)) xs) h) n) some

-- of the names of a second list that are not in the first, each stands as often as in the second, and where it is in the first not at all
abbrev others : List (List ℕ) → List (List ℕ) → List (List ℕ)
others xs ys = filter (λ y. not (among y xs)) ys

others_step : (n y : List ℕ) (zs : List (List ℕ)) (p : Bool) → often n (cond p (y ∷ zs) zs) ≤ tick (bytes_eq y n) + often n zs
others_step n y zs true = omega arith
others_step n y zs false = omega arith

others-le : (n : List ℕ) (xs ys : List (List ℕ)) → often n (others xs ys) ≤ often n ys
others-le n xs [] = omega arith
others-le n xs (y ∷ ys) = omega (arith, others-le n xs ys, others_step n y (others xs ys) (not (among y xs)))

drop_step : (n y : List ℕ) (xs zs : List (List ℕ)) (p b : Bool) → among y xs ≡ p → bytes_eq y n ≡ b → 0 < often n xs → often n zs ≡ 0 → often n (cond (not p) (y ∷ zs) zs) ≡ 0
drop_step n y xs zs true b is same some later = later
drop_step n y xs zs false true is same some later = let none : often n xs ≡ 0 = subst (λ m. often m xs ≡ 0) ((bytes_eq-Decides y n).0 same) (often_none y xs is) in absurd (omega (arith, some, none))
drop_step n y xs zs false false is same some later = omega (arith, ap tick same, later)

others_none : (n : List ℕ) (xs ys : List (List ℕ)) → 0 < often n xs → often n (others xs ys) ≡ 0
others_none n xs [] some = refl
others_none n xs (y ∷ ys) some = drop_step n y xs (others xs ys) (among y xs) (bytes_eq y n) refl refl some (others_none n xs ys some)

-- a name stands once in two lists that are joined where it stands once in each, and nowhere where it stands in neither
pub joined_once : (n : List ℕ) (xs ys : List (List ℕ)) → often n xs ≤ 1 → often n ys ≤ 1 → often n (joined xs ys) ≤ 1
joined_once n xs ys h k = elim (cases_lt 0 (often n xs)) [
  | inl some ↦ omega (arith, often-append n xs (others xs ys), others_none n xs ys some, h)
  | inr none ↦ omega (arith, often-append n xs (others xs ys), others-le n xs ys, k)
]

pub joined_none : (n : List ℕ) (xs ys : List (List ℕ)) → often n xs ≡ 0 → often n ys ≡ 0 → often n (joined xs ys) ≡ 0
joined_none n xs ys h k = omega (arith, often-append n xs (others xs ys), others-le n xs ys, h, k)

-- and a name that stands in either of them stands there
pub joined_first : (n : List ℕ) (xs ys : List (List ℕ)) → often n xs ≤ often n (joined xs ys)
joined_first n xs ys = omega (arith, often-append n xs (others xs ys))

keep_step : (n y : List ℕ) (xs zs : List (List ℕ)) (k : ℕ) (p b : Bool) → among y xs ≡ p → bytes_eq y n ≡ b → often n xs ≡ 0 → k ≤ often n zs → tick b + k ≤ often n (cond (not p) (y ∷ zs) zs)
keep_step n y xs zs k false b is same none later = omega (arith, ap tick same, later)
keep_step n y xs zs k true true is same none later = let out = none_often y xs (subst (λ m. often m xs ≡ 0) (sym ((bytes_eq-Decides y n).0 same)) none) in cc
keep_step n y xs zs k true false is same none later = omega (arith, later)

others_all : (n : List ℕ) (xs ys : List (List ℕ)) → often n xs ≡ 0 → often n ys ≤ often n (others xs ys)
others_all n xs [] none = omega arith
others_all n xs (y ∷ ys) none = keep_step n y xs (others xs ys) (often n ys) (among y xs) (bytes_eq y n) refl refl none (others_all n xs ys none)

pub joined_second : (n : List ℕ) (xs ys : List (List ℕ)) → 0 < often n ys → 0 < often n (joined xs ys)
joined_second n xs ys some = elim (cases_lt 0 (often n xs)) [
  | inl more ↦ omega (arith, often-append n xs (others xs ys), more)
  | inr none ↦ omega (arith, often-append n xs (others xs ys), others_all n xs ys (omega (arith, none)), some)
]
