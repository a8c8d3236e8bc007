-- Filters of a run of numbers: their members, their first one, and the next one after a number.
use Rattle.std.proofs.Common.{ℕ, zero, suc, ◌+◌, ◌<◌, ◌≤◌, ◌≡◌, Bool, true, false, cond, nat_lt, List, [], ◌∷◌, filter, find, slice_get, Contains, ◌⊎◌, Some, None, inl, inr, unwrap_or, arith, refl, sym, ap, subst, ◌∙◌}
use Rattle.std.specs.List.{range_with_len}
use Rattle.std.proofs.lemmas.Bool.{cases_lt, cases_eq, lt-ltb, le-ltb}

pub by_test : {P : Type 0} (b : Bool) → (b ≡ true → P) → (b ≡ false → P) → P
by_test true t f = t refl
by_test false t f = f refl

-- a test is true where another one is, and only there: they are one
pub same_test : (a b : Bool) → (a ≡ true → b ≡ true) → (b ≡ true → a ≡ true) → a ≡ b
same_test true b t f = sym (t refl)
same_test false true t f = f refl
same_test false false t f = refl

pub some_is : {a b : ℕ} → Some a ≡ Some b → a ≡ b
some_is h = ap (λ o. unwrap_or o 0) h

contains_here : (x : ℕ) (xs : List ℕ) → Contains (x ∷ xs) x
contains_here x xs = (0, omega arith, refl)

contains_later : (x : ℕ) (xs : List ℕ) (q : ℕ) → Contains xs q → Contains (x ∷ xs) q
contains_later x xs q (k, below, is) = (suc k, omega (arith, below), is)

contains_cases : (x : ℕ) (xs : List ℕ) (q : ℕ) → Contains (x ∷ xs) q → (x ≡ q) ⊎ Contains xs q
contains_cases x xs q (zero, below, is) = inl is
contains_cases x xs q (suc k, below, is) = inr (k, omega (arith, below), is)

-- a filter of a list has those of the list that pass
pub in_kept : (p : ℕ → Bool) (xs : List ℕ) (q : ℕ) → Contains (filter p xs) q → Contains xs q × (p q ≡ true)
in_kept p [] q (k, below, is) = absurd (omega (arith, below))
in_kept p (x ∷ xs) q held =
    let P : List ℕ → Type 0 = λ ys. Contains ys q in
    let later : Contains (filter p xs) q → Contains (x ∷ xs) q × (p q ≡ true) =
    λ rest. let known = in_kept p xs q rest in (contains_later x xs q known.0, known.1) in
    by_test (p x)
    (λ yes. elim (contains_cases x (filter p xs) q (subst P (ap (λ b. cond b (x ∷ filter p xs) (filter p xs)) yes) held))
    [ inl same ↦ rw (← same) (contains_here x xs, yes) | inr rest ↦ later rest ])
    (λ no. later (subst P (ap (λ b. cond b (x ∷ filter p xs) (filter p xs)) no) held))

pub kept_in : (p : ℕ → Bool) (xs : List ℕ) (q : ℕ) → Contains xs q → p q ≡ true → Contains (filter p xs) q
kept_in p [] q (k, below, is) passes = absurd (omega (arith, below))
kept_in p (x ∷ xs) q held passes =
    elim (contains_cases x xs q held) [
      | inl same ↦ let here = ap p same ∙ passes in rw here (rw (← same) (contains_here x (filter p xs)))
      | inr rest ↦
          let later = kept_in p xs q rest passes in
          by_test (p x) (λ yes. rw yes (contains_later x (filter p xs) q later)) (λ no. rw no later)
    ]

-- a number of the run that passes is in the filter
pub in_filter : (p : ℕ → Bool) (a n q : ℕ) → a ≤ q → q < a + n → p q ≡ true → Contains (filter p (range_with_len a n)) q
in_filter p a zero q from below passes = absurd (omega (arith, from, below))
in_filter p a (suc n) q from below passes =
    let later : (a ≡ q → ⊥) → Contains (filter p (range_with_len (a + 1) n)) q = λ other. in_filter p (a + 1) n q (omega (arith, from, other)) (omega (arith, below)) passes in
    by_test (p a)
    (λ yes. rw yes (elim (cases_eq a q) [ inl same ↦ rw (← same) (contains_here a (filter p (range_with_len (a + 1) n))) | inr other ↦ contains_later a (filter p (range_with_len (a + 1) n)) q (later other) ]))
    (λ no. rw no (later (λ same. let here = ap p same in cc)))

-- what is in the filter is a number of the run that passes
pub from_filter : (p : ℕ → Bool) (a n q : ℕ) → Contains (filter p (range_with_len a n)) q → (a ≤ q) × (q < a + n) × (p q ≡ true)
from_filter p a zero q (k, below, is) = absurd (omega (arith, below))
from_filter p a (suc n) q found =
    let later : Contains (filter p (range_with_len (a + 1) n)) q → (a ≤ q) × (q < a + suc n) × (p q ≡ true) =
    λ rest. let known = from_filter p (a + 1) n q rest in (omega (arith, known.0), omega (arith, known.1), known.2) in
    let P : List ℕ → Type 0 = λ xs. Contains xs q in
    by_test (p a)
    (λ yes. elim (contains_cases a (filter p (range_with_len (a + 1) n)) q (subst P (ap (λ b. cond b (a ∷ filter p (range_with_len (a + 1) n)) (filter p (range_with_len (a + 1) n))) yes) found))
    [ inl same ↦ (omega (arith, same), omega (arith, same), rw (← same) yes) | inr rest ↦ later rest ])
    (λ no. later (subst P (ap (λ b. cond b (a ∷ filter p (range_with_len (a + 1) n)) (filter p (range_with_len (a + 1) n))) no) found))

-- the first number above k that passes
pub find_above : (p : ℕ → Bool) (k a n q : ℕ) → k < q → a ≤ q → q < a + n → p q ≡ true → ((j : ℕ) → k < j → a ≤ j → j < q → p j ≡ false) → find (λ j. nat_lt k j) (filter p (range_with_len a n)) ≡ Some q
find_above p k a zero q above from below passes first = absurd (omega (arith, from, below))
find_above p k a (suc n) q above from below passes first =
    let later : (a ≡ q → ⊥) → find (λ j. nat_lt k j) (filter p (range_with_len (a + 1) n)) ≡ Some q =
    λ other. find_above p k (a + 1) n q above (omega (arith, from, other)) (omega (arith, below)) passes (λ j over start under. first j over (omega (arith, start)) under) in
    by_test (p a)
    (λ yes. rw yes (elim (cases_eq a q) [
      | inl same ↦ let test = lt-ltb k a (omega (arith, above, same)) in rw (test, same) refl
      | inr other ↦ elim (cases_lt k a) [
        | inl over ↦ let no = first a over (omega arith) (omega (arith, from, other)) in cc
        | inr under ↦ let test = le-ltb k a under in rw test (later other)
      ]
    ]))
    (λ no. rw no (later (λ same. let here = ap p same in cc)))

pub find_none : (p : ℕ → Bool) (k a n : ℕ) → ((j : ℕ) → k < j → a ≤ j → j < a + n → p j ≡ false) → find (λ j. nat_lt k j) (filter p (range_with_len a n)) ≡ None
find_none p k a zero none = refl
find_none p k a (suc n) none =
    let later : find (λ j. nat_lt k j) (filter p (range_with_len (a + 1) n)) ≡ None = find_none p k (a + 1) n (λ j over start under. none j over (omega (arith, start)) (omega (arith, under))) in
    by_test (p a)
    (λ yes. rw yes (elim (cases_lt k a) [
      | inl over ↦ let no = none a over (omega arith) (omega arith) in cc
      | inr under ↦ let test = le-ltb k a under in rw test later
    ]))
    (λ no. rw no later)

-- the first number that passes
pub head_found : (p : ℕ → Bool) (a n q : ℕ) → a ≤ q → q < a + n → p q ≡ true → ((j : ℕ) → a ≤ j → j < q → p j ≡ false) → slice_get (filter p (range_with_len a n)) 0 ≡ Some q
head_found p a zero q from below passes first = absurd (omega (arith, from, below))
head_found p a (suc n) q from below passes first =
    elim (cases_eq a q) [
      | inl same ↦ let yes = ap p same ∙ passes in rw yes (ap (λ x. Some x) same)
      | inr other ↦ let no = first a (omega arith) (omega (arith, from, other)) in rw no (head_found p (a + 1) n q (omega (arith, from, other)) (omega (arith, below)) passes (λ j start under. first j (omega (arith, start)) under))
    ]

pub head_none : (p : ℕ → Bool) (a n : ℕ) → ((j : ℕ) → a ≤ j → j < a + n → p j ≡ false) → slice_get (filter p (range_with_len a n)) 0 ≡ None
head_none p a zero none = refl
head_none p a (suc n) none = let no = none a (omega arith) (omega arith) in rw no (head_none p (a + 1) n (λ j start under. none j (omega (arith, start)) (omega (arith, under))))

-- a filter of a run by its first number
pub filter_yes : (p : ℕ → Bool) (a n : ℕ) → p a ≡ true → filter p (range_with_len a (suc n)) ≡ a ∷ filter p (range_with_len (a + 1) n)
filter_yes p a n passes = rw passes refl

pub filter_no : (p : ℕ → Bool) (a n : ℕ) → p a ≡ false → filter p (range_with_len a (suc n)) ≡ filter p (range_with_len (a + 1) n)
filter_no p a n fails = rw fails refl

at_or_later : (a : ℕ) (xs : List ℕ) (i q : ℕ) → slice_get (a ∷ xs) i ≡ Some q → ((j : ℕ) → slice_get xs j ≡ Some q → a ≤ q) → a ≤ q
at_or_later a xs zero q is later = let same = some_is is in omega (arith, same)
at_or_later a xs (suc i) q is later = later i is

-- what stands in the filter is from the run's beginning on
from_on : (p : ℕ → Bool) (a n i q : ℕ) → slice_get (filter p (range_with_len a n)) i ≡ Some q → a ≤ q
from_on p a zero i q is = absurd (let wrong = is in cc)
from_on p a (suc n) i q is =
    let P : List ℕ → Type 0 = λ xs. slice_get xs i ≡ Some q in
    by_test (p a)
    (λ yes. at_or_later a (filter p (range_with_len (a + 1) n)) i q (subst P (filter_yes p a n yes) is) (λ j later. omega (arith, from_on p (a + 1) n j q later)))
    (λ fails. omega (arith, from_on p (a + 1) n i q (subst P (filter_no p a n fails) is)))

-- all is above k: the next one after k is the first one
above_all : (p : ℕ → Bool) (k a n : ℕ) → k < a → find (λ j. nat_lt k j) (filter p (range_with_len a n)) ≡ slice_get (filter p (range_with_len a n)) 0
above_all p k a zero above = refl
above_all p k a (suc n) above =
    by_test (p a)
    (λ yes. let test = lt-ltb k a above in rw (yes, test) refl)
    (λ no. rw no (above_all p k (a + 1) n (omega (arith, above))))

next_of_cons : (p : ℕ → Bool) (a n i q : ℕ) → slice_get (a ∷ filter p (range_with_len (a + 1) n)) i ≡ Some q → ((j : ℕ) → slice_get (filter p (range_with_len (a + 1) n)) j ≡ Some q → find (λ j. nat_lt q j) (filter p (range_with_len (a + 1) n)) ≡ slice_get (filter p (range_with_len (a + 1) n)) (j + 1)) → find (λ j. nat_lt q j) (a ∷ filter p (range_with_len (a + 1) n)) ≡ slice_get (a ∷ filter p (range_with_len (a + 1) n)) (i + 1)
next_of_cons p a n zero q is later =
    let same = some_is is in
    let test = le-ltb q a (omega (arith, same)) in
    rw test (above_all p q (a + 1) n (omega (arith, same)))
next_of_cons p a n (suc i) q is later =
    let start = from_on p (a + 1) n i q is in
    let test = le-ltb q a (omega (arith, start)) in
    let index : suc i + 1 ≡ suc (i + 1) = omega arith in
    rw (test, index) (later i is)

-- the next one after a number of the filter is the one at the next index
pub next_index : (p : ℕ → Bool) (a n i q : ℕ) → slice_get (filter p (range_with_len a n)) i ≡ Some q → find (λ j. nat_lt q j) (filter p (range_with_len a n)) ≡ slice_get (filter p (range_with_len a n)) (i + 1)
next_index p a zero i q is = absurd (let wrong = is in cc)
next_index p a (suc n) i q is =
    let P : List ℕ → Type 0 = λ xs. slice_get xs i ≡ Some q in
    by_test (p a)
    (λ yes. rw yes (next_of_cons p a n i q (subst P (filter_yes p a n yes) is) (λ j later. next_index p (a + 1) n j q later)))
    (λ fails. rw fails (next_index p (a + 1) n i q (subst P (filter_no p a n fails) is)))
