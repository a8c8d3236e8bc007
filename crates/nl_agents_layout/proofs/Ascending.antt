-- Lists of numbers that ascend are one list where they have the same members, and so they are what a filter keeps.
use Rattle.std.specs.Prelude.{◌≡◌, ℕ, zero, suc, ◌+◌, ◌<◌, ◌≤◌, ◌==◌, ◌&&◌, ◌||◌, Bool, true, false, if◌then◌else◌, List, [], ◌∷◌, ◌++◌, filter, nat_lt, refl}
use Rattle.std.proofs.Common.{ap, sym, ◌∙◌, subst, arith, ⊎_elim}
use Rattle.std.specs.List.{list_any, range_with_len}
use Rattle.std.specs.List.Sorted.{IsStrictlyIncreasing}
use Rattle.std.specs.Ordering.{nat_cmp}
use Rattle.std.proofs.lemmas.Bool.{both_ways, cases_eq, eq-eqb, eqb-true, ne_eqb, or_cases, or_left, or_right, false_from_ne_true, lt-ltb, ltb-true}
use Rattle.std.proofs.lemmas.Bool.Decides.{same_from_decides}
use Rattle.std.proofs.lemmas.List.Folds.{Any-from_list_any}
use Rattle.std.proofs.lemmas.List.FromFn.{length-range_with_len, get_or-range_with_len, map-range_with_len_more}
use Rattle.std.proofs.lemmas.List.{map-id}
use Rattle.std.proofs.lemmas.List.Kept.{AllPairs-from_increasing, IsStrictlyIncreasing-filter}
use Rattle.std.proofs.lemmas.Map.Keys.{sorted_tail, sorted_from_strictly_increasing, IsStrictlyIncreasing-from_sorted}

-- the number is in the list
abbrev pub has : List ℕ → ℕ → Bool
has xs z = list_any (λ other. other == z) xs

-- ---- two lists

pub rest_ascends : (x : ℕ) (xs : List ℕ) → IsStrictlyIncreasing (x ∷ xs) → IsStrictlyIncreasing xs
rest_ascends x xs up = IsStrictlyIncreasing-from_sorted xs (sorted_tail nat_cmp x xs (sorted_from_strictly_increasing (x ∷ xs) up))

-- the first number is below each later one
pub first_is_below : (x : ℕ) (xs : List ℕ) → IsStrictlyIncreasing (x ∷ xs) → (z : ℕ) → has xs z ≡ true → x < z
first_is_below x xs up z h =
    let (k, y, inside, at, same) = Any-from_list_any (λ other. other == z) xs h in
    let below = AllPairs-from_increasing (x ∷ xs) up 0 (suc k) y (omega arith) (omega (arith, inside)) in
    omega (arith, below, at, eqb-true y z same)

has_first : (x : ℕ) (xs : List ℕ) → has (x ∷ xs) x ≡ true
has_first x xs = or_left (x == x) (has xs x) (eq-eqb x x refl)

-- the first number of a list stands nowhere before the first of another that has it
heads_by : (x : ℕ) (y : ℕ) (ys : List ℕ) → IsStrictlyIncreasing (y ∷ ys) → has (y ∷ ys) x ≡ true → y ≤ x
heads_by x y ys up h =
    ⊎_elim (λ same. omega (arith, eqb-true y x same)) (λ later. omega (arith, first_is_below y ys up x later)) (or_cases (y == x) (has ys x) h)

without_first : (x z : ℕ) (xs : List ℕ) → (x ≡ z → ⊥) → has xs z ≡ has (x ∷ xs) z
without_first x z xs apart = ap (λ b. b || has xs z) (sym (ne_eqb x z apart))

not_later : (x : ℕ) (xs : List ℕ) → IsStrictlyIncreasing (x ∷ xs) → has xs x ≡ false
not_later x xs up = false_from_ne_true (has xs x) (λ h. absurd (omega (arith, first_is_below x xs up x h)))

rests : (x : ℕ) (xs ys : List ℕ) → IsStrictlyIncreasing (x ∷ xs) → IsStrictlyIncreasing (x ∷ ys) → ((z : ℕ) → has (x ∷ xs) z ≡ has (x ∷ ys) z) → (z : ℕ) → has xs z ≡ has ys z
rests x xs ys u v h z =
    ⊎_elim
    (λ same. subst (λ n. has xs n ≡ has ys n) same (not_later x xs u ∙ sym (not_later x ys v)))
    (λ apart. without_first x z xs apart ∙ h z ∙ sym (without_first x z ys apart))
    (cases_eq x z)

pub same_ascending : (xs ys : List ℕ) → IsStrictlyIncreasing xs → IsStrictlyIncreasing ys → ((z : ℕ) → has xs z ≡ has ys z) → xs ≡ ys
same_ascending [] [] u v h = refl
same_ascending [] (y ∷ ys) u v h = absurd (both_ways (has (y ∷ ys) y) (sym (h y)) (has_first y ys))
same_ascending (x ∷ xs) [] u v h = absurd (both_ways (has (x ∷ xs) x) (h x) (has_first x xs))
same_ascending (x ∷ xs) (y ∷ ys) u v h =
    let low : y ≤ x = heads_by x y ys v (sym (h x) ∙ has_first x xs) in
    let high : x ≤ y = heads_by y x xs u (h y ∙ has_first y ys) in
    let same : y ≡ x = omega arith in
    let there : IsStrictlyIncreasing (x ∷ ys) = subst (λ n. IsStrictlyIncreasing (n ∷ ys)) same v in
    let alike : (z : ℕ) → has (x ∷ xs) z ≡ has (x ∷ ys) z = subst (λ n. (z : ℕ) → has (x ∷ xs) z ≡ has (n ∷ ys) z) same h in
    ap (λ zs. x ∷ zs) (same_ascending xs ys (rest_ascends x xs u) (rest_ascends y ys v) (rests x xs ys u there alike))
    ∙ ap (λ n. n ∷ ys) (sym same)

-- ---- what a filter keeps

and_later : (x z : ℕ) (p : ℕ → Bool) (b : Bool) → p x ≡ b → (xs : List ℕ) → has (filter p xs) z ≡ (has xs z && p z)
    → has (if b then x ∷ filter p xs else filter p xs) z ≡ (((x == z) || has xs z) && p z)
and_later x z p true is xs later =
    ⊎_elim
    (λ same. let here : p z ≡ true = subst (λ n. p n ≡ true) same is in let eq = eq-eqb x z same in rw (eq, here) refl)
    (λ apart. let ne = ne_eqb x z apart in rw ne later)
    (cases_eq x z)
and_later x z p false is xs later =
    ⊎_elim
    (λ same. let here : p z ≡ false = subst (λ n. p n ≡ false) same is in later ∙ both_false (has xs z) ((x == z) || has xs z) (p z) here)
    (λ apart. let ne = ne_eqb x z apart in rw ne later)
    (cases_eq x z)
  where
    both_false : (a b c : Bool) → c ≡ false → (a && c) ≡ (b && c)
    both_false true true c e = refl
    both_false true false c e = e
    both_false false true c e = sym e
    both_false false false c e = refl

pub has_filter : (p : ℕ → Bool) (xs : List ℕ) (z : ℕ) → has (filter p xs) z ≡ (has xs z && p z)
has_filter p [] z = refl
has_filter p (x ∷ xs) z = and_later x z p (p x) refl xs (has_filter p xs z)

pub range_ascends : (a n : ℕ) → IsStrictlyIncreasing (range_with_len a n)
range_ascends a n k inside =
    let long = length-range_with_len a n in
    let here = get_or-range_with_len a n k 0 (omega arith) in
    let next = get_or-range_with_len a n (k + 1) 0 (omega arith) in
    omega (arith, here, next)

in_range : (a n z : ℕ) → has (range_with_len a n) z ≡ true → (a ≤ z) × (z < a + n)
in_range a zero z h = absurd (both_ways false refl h)
in_range a (suc n) z h =
    ⊎_elim
    (λ same. let is = eqb-true a z same in (omega (arith, is), omega (arith, is)))
    (λ later. let at = in_range (a + 1) n z later in (omega (arith, at.0), omega (arith, at.1)))
    (or_cases (a == z) (has (range_with_len (a + 1) n) z) h)

of_range : (a n z : ℕ) → a ≤ z → z < a + n → has (range_with_len a n) z ≡ true
of_range a zero z low high = absurd (omega arith)
of_range a (suc n) z low high =
    ⊎_elim
    (λ same. or_left (a == z) (has (range_with_len (a + 1) n) z) (eq-eqb a z same))
    (λ apart. or_right (a == z) (has (range_with_len (a + 1) n) z) (of_range (a + 1) n z (grind arith) (omega arith)))
    (cases_eq a z)

pub has_range : (n z : ℕ) → has (range_with_len 0 n) z ≡ nat_lt z n
has_range n z =
    same_from_decides {P = z < n} (has (range_with_len 0 n) z) (nat_lt z n)
    ((λ h. let at = in_range 0 n z h in omega (arith, at.1)), (λ h. of_range 0 n z (omega arith) (omega (arith, h))))
    ((λ h. ltb-true z n h), (λ h. lt-ltb z n h))

pub range_more : (n : ℕ) → range_with_len 0 (n + 1) ≡ range_with_len 0 n ++ n ∷ []
range_more n =
    sym (map-id (range_with_len 0 (n + 1))) ∙ map-range_with_len_more (λ (x : ℕ). x) 0 n n (omega arith) ∙ ap (λ l. l ++ n ∷ []) (map-id (range_with_len 0 n))

-- numbers that ascend and are those below a bound that pass a test
pub ranged : (p : ℕ → Bool) (n : ℕ) (xs : List ℕ) → IsStrictlyIncreasing xs → ((z : ℕ) → has xs z ≡ (nat_lt z n && p z)) → xs ≡ filter p (range_with_len 0 n)
ranged p n xs up h =
    same_ascending xs (filter p (range_with_len 0 n)) up
    (IsStrictlyIncreasing-filter p (range_with_len 0 n) (range_ascends 0 n))
    (λ z. h z ∙ ap (λ b. b && p z) (sym (has_range n z)) ∙ sym (has_filter p (range_with_len 0 n) z))
