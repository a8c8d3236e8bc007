-- Draws of values.
use Rattle.std.proofs.Common.{◌≡◌, ◌≢◌, ℕ, zero, suc, ◌+◌, ◌-◌, ◌≤◌, ℤ, pos, negsuc, unsigned_abs, List, [], ◌∷◌, ◌++◌, length, take, map, swap, get_or, slice_set, refl, ap, ◌∙◌, arith}
use Rattle.std.proofs.lemmas.Int.{ints}
use Rattle.std.proofs.lemmas.List.{length-map}
use Rattle.nl_draw.specs.Stream.{drawn, shuffled, shuffled_from}
use Rattle.nl_fixed.specs.Numbers.{floor_of, ceiling_of, whole_part}
use Rattle.nl_listops.specs.Answers.{whole_size}

-- ---- a number that isn't 0 has a whole number above it

up_whole : (m : ℕ) → 1 ≤ unsigned_abs (whole_part (ceiling_of (pos (suc m))))
unfolding ceiling_of floor_of
up_whole m = omega (arith, ints)

pub some_whole : (n : ℤ) → n ≢ pos 0 → 1 ≤ whole_size n
some_whole (pos zero) some = absurd (some refl)
some_whole (pos (suc m)) some = up_whole m
some_whole (negsuc m) some = up_whole m

-- ---- a shuffle goes by indices alone

set-map : {A X : Type 0} (f : A → X) (xs : List A) (i : ℕ) (v : A) → slice_set (map f xs) i (f v) ≡ map f (slice_set xs i v)
set-map f [] i v = refl
set-map f (x ∷ xs) zero v = refl
set-map f (x ∷ xs) (suc i) v = ap (λ s. f x ∷ s) (set-map f xs i v)

read-map : {A X : Type 0} (f : A → X) (xs : List A) (i : ℕ) (d : A) → get_or (map f xs) i (f d) ≡ f (get_or xs i d)
read-map f [] i d = refl
read-map f (x ∷ xs) zero d = refl
read-map f (x ∷ xs) (suc i) d = read-map f xs i d

swap-map : {A X : Type 0} (f : A → X) (xs : List A) (i j : ℕ) → swap (map f xs) i j ≡ map f (swap xs i j)
swap-map f [] i j = refl
swap-map f (d ∷ ys) i j =
    let xs = d ∷ ys in
    ap (λ v. slice_set (slice_set (map f xs) i v) j (get_or (map f xs) i (f d))) (read-map f xs j d)
    ∙ (ap (λ v. slice_set (slice_set (map f xs) i (f (get_or xs j d))) j v) (read-map f xs i d)
    ∙ (ap (λ s. slice_set s j (f (get_or xs i d))) (set-map f xs i (get_or xs j d)) ∙ set-map f (slice_set xs i (get_or xs j d)) j (get_or xs i d)))

shuffled_from-map : {A X : Type 0} (f : A → X) (n : ℕ) (xs : List A) (s : ℕ) → ((shuffled_from n (map f xs) s).0 ≡ map f (shuffled_from n xs s).0) × ((shuffled_from n (map f xs) s).1 ≡ (shuffled_from n xs s).1)
unfolding shuffled_from
shuffled_from-map f zero xs s = (refl, refl)
shuffled_from-map f (suc n) xs s =
    let other = drawn (suc n + 1) s in
    let same = swap-map f xs (suc n) other.0 in
    let rest = shuffled_from-map f n (swap xs (suc n) other.0) other.1 in
    (ap (λ l. (shuffled_from n l other.1).0) same ∙ rest.0, ap (λ l. (shuffled_from n l other.1).1) same ∙ rest.1)

pub shuffled-map : {A X : Type 0} (f : A → X) (xs : List A) (s : ℕ) → ((shuffled (map f xs) s).0 ≡ map f (shuffled xs s).0) × ((shuffled (map f xs) s).1 ≡ (shuffled xs s).1)
unfolding shuffled
shuffled-map f xs s =
    let long = length-map xs f in
    let rest = shuffled_from-map f (length xs - 1) xs s in
    (ap (λ n. (shuffled_from (n - 1) (map f xs) s).0) long ∙ rest.0, ap (λ n. (shuffled_from (n - 1) (map f xs) s).1) long ∙ rest.1)

-- the slice of a vector, written back
front : {A : Type 0} (xs rest : List A) → take (length xs) (xs ++ rest) ≡ xs
front [] rest = refl
front (x ∷ xs) rest = ap (λ s. x ∷ s) (front xs rest)

pub written_back : {A : Type 0} (n : ℕ) (new rest : List A) → n ≡ length new → take n (new ++ rest) ≡ new
written_back n new rest is = ap (λ k. take k (new ++ rest)) is ∙ front new rest
