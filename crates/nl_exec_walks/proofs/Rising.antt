-- Numbers that ascend go on to where some of them are left out.
use Rattle.std.proofs.Common.{◌≡◌, ℕ, zero, suc, ◌+◌, ◌<◌, List, [], ◌∷◌, ◌++◌, get_or, drop, subst, arith}
use Rattle.std.specs.List.Sorted.{IsStrictlyIncreasing}

first_two : (x y : ℕ) (ys : List ℕ) → IsStrictlyIncreasing (x ∷ y ∷ ys) → x < y
first_two x y ys up = up 0 (omega arith)

later : (x : ℕ) (ys : List ℕ) → IsStrictlyIncreasing (x ∷ ys) → IsStrictlyIncreasing ys
later x [] up = λ k inside. absurd (omega arith)
later x (y ∷ ys) up = λ k inside.
    let zs = x ∷ y ∷ ys in
    let next : suc k + 1 ≡ suc (k + 1) = omega arith in
    subst (λ n. get_or zs (suc k) 0 < get_or zs n 0) next (up (suc k) (omega (arith, inside)))

joined : (x y : ℕ) (ys : List ℕ) → x < y → IsStrictlyIncreasing (y ∷ ys) → IsStrictlyIncreasing (x ∷ y ∷ ys)
joined x y ys below up = by
  where
    by : IsStrictlyIncreasing (x ∷ y ∷ ys)
    by zero inside = below
    by (suc k) inside =
        let zs = x ∷ y ∷ ys in
        let next : suc (k + 1) ≡ suc k + 1 = omega arith in
        subst (λ n. get_or zs (suc k) 0 < get_or zs n 0) next (up k (omega (arith, inside)))

alone : (x : ℕ) → IsStrictlyIncreasing (x ∷ [])
alone x = λ k inside. absurd (omega (arith, inside))

pub rising_front : (xs ys : List ℕ) → IsStrictlyIncreasing (xs ++ ys) → IsStrictlyIncreasing xs
rising_front [] ys up = λ k inside. absurd (omega (arith, inside))
rising_front (x ∷ []) ys up = alone x
rising_front (x ∷ y ∷ xs) ys up = joined x y xs (first_two x y (xs ++ ys) up) (rising_front (y ∷ xs) ys (later x (y ∷ xs ++ ys) up))

pub rising_without : (xs : List ℕ) (y : ℕ) (ys : List ℕ) → IsStrictlyIncreasing (xs ++ y ∷ ys) → IsStrictlyIncreasing (xs ++ ys)
rising_without [] y ys up = later y ys up
rising_without (x ∷ []) y [] up = alone x
rising_without (x ∷ []) y (z ∷ ys) up =
    let low = first_two x y (z ∷ ys) up in
    let high = first_two y z ys (later x (y ∷ z ∷ ys) up) in
    joined x z ys (omega (arith, low, high)) (later y (z ∷ ys) (later x (y ∷ z ∷ ys) up))
rising_without (x ∷ w ∷ xs) y ys up =
    joined x w (xs ++ ys) (first_two x w (xs ++ y ∷ ys) up) (rising_without (w ∷ xs) y ys (later x (w ∷ xs ++ y ∷ ys) up))

pub rising_drop : (xs : List ℕ) (n : ℕ) (ys : List ℕ) → IsStrictlyIncreasing (xs ++ ys) → IsStrictlyIncreasing (xs ++ drop n ys)
rising_drop xs zero ys up = up
rising_drop xs (suc n) [] up = up
rising_drop xs (suc n) (y ∷ ys) up = rising_drop xs n ys (rising_without xs y ys up)
