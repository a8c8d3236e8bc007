-- Elements of lists that grow at their ends.
use Rattle.std.proofs.Common.{get_or, ◌≡◌, ℕ, zero, suc, ◌+◌, ◌<◌, ◌≤◌, ◌⊎◌, inl, inr, List, [], ◌∷◌, ◌++◌, Some, length, take, drop, slice_get, refl, ap, ◌∙◌, sym, arith}
use Rattle.std.proofs.lemmas.List.{take_more}
use Rattle.std.proofs.lemmas.Grind.{common_steps}
use Rattle.nl_exec_meaning.specs.inner.Arena.{Grows}

pub get_before : {A : Type 0} (xs ys : List A) (i : ℕ) → i < length xs → slice_get (xs ++ ys) i ≡ slice_get xs i
get_before [] ys i h = absurd (omega (arith, h))
get_before (x ∷ xs) ys zero h = refl
get_before (x ∷ xs) ys (suc i) h = get_before xs ys i (omega (arith, h))

pub get_last : {A : Type 0} (xs : List A) (x : A) → slice_get (xs ++ x ∷ []) (length xs) ≡ Some x
get_last [] x = refl
get_last (y ∷ xs) x = get_last xs x

pub get_snoc : {A : Type 0} (xs : List A) (x : A) (i : ℕ) (y : A) → slice_get (xs ++ x ∷ []) i ≡ Some y → (slice_get xs i ≡ Some y) ⊎ ((i ≡ length xs) × (x ≡ y))
get_snoc [] x zero y h = inr (refl, cc)
get_snoc [] x (suc i) y h = absurd (cc)
get_snoc (z ∷ xs) x zero y h = inl h
get_snoc (z ∷ xs) x (suc i) y h = elim (get_snoc xs x i y h) [ inl a ↦ inl a | inr (a, b) ↦ inr (omega (arith, a), b) ]

pub get_take : {A : Type 0} (n : ℕ) (xs : List A) (i : ℕ) → i < n → slice_get (take n xs) i ≡ slice_get xs i
get_take zero xs i h = absurd (omega (arith, h))
get_take (suc n) [] i h = refl
get_take (suc n) (x ∷ xs) zero h = refl
get_take (suc n) (x ∷ xs) (suc i) h = get_take n xs i (omega (arith, h))

pub get_of_take : {A : Type 0} (n : ℕ) (xs : List A) (i : ℕ) (y : A) → slice_get (take n xs) i ≡ Some y → slice_get xs i ≡ Some y
get_of_take zero xs i y h = absurd (cc)
get_of_take (suc n) [] i y h = h
get_of_take (suc n) (x ∷ xs) zero y h = h
get_of_take (suc n) (x ∷ xs) (suc i) y h = get_of_take n xs i y h

pub grown_length : {A : Type 0} (old new : List A) → Grows old new → length old ≤ length new
grown_length old new h = let e : length (take (length old) new) ≡ length old = ap length h in grind (arith, common_steps, e)

pub grown_get : {A : Type 0} (old new : List A) (i : ℕ) → Grows old new → i < length old → slice_get new i ≡ slice_get old i
grown_get old new i h lt = sym (get_take (length old) new i lt) ∙ ap (λ xs. slice_get xs i) h

pub grows_by : {A : Type 0} (old more : List A) → Grows old (old ++ more)
grows_by [] more = refl
grows_by (x ∷ xs) more = ap (λ ys. x ∷ ys) (grows_by xs more)

grows_take : {A : Type 0} (old mid new : List A) → Grows old mid → Grows mid new → (n m : ℕ) → n ≡ length old → m ≡ length mid → n ≤ m → take n (take m new) ≡ take n new → Grows old new
grows_take old mid new g k n m e f le t = ap (λ i. take i new) (sym e) ∙ sym t ∙ ap (take n) (ap (λ i. take i new) f ∙ k) ∙ ap (λ i. take i mid) e ∙ g

pub take_take : {A : Type 0} (n c : ℕ) (xs : List A) → c ≤ n → take c (take n xs) ≡ take c xs
take_take n zero xs h = refl
take_take zero (suc c) xs h = absurd (omega (arith, h))
take_take (suc n) (suc c) [] h = refl
take_take (suc n) (suc c) (x ∷ xs) h = ap (λ ys. x ∷ ys) (take_take n c xs (omega (arith, h)))

pub grows_on : {A : Type 0} (old mid new : List A) → Grows old mid → Grows mid new → Grows old new
grows_on old mid new g k =
    let le = grown_length old mid g in
    grows_take old mid new g k (length old) (length mid) refl refl le (take_take (length mid) (length old) new le)

pub grows_snoc : {A : Type 0} (first old new : List A) (x : A) → Grows first old → new ≡ old ++ x ∷ [] → Grows first new
grows_snoc first old new x g is = rw is (grows_on first old (old ++ x ∷ []) g (grows_by old (x ∷ [])))

pub drop_at : {A : Type 0} (xs : List A) (i : ℕ) (x : A) → slice_get xs i ≡ Some x → drop i xs ≡ x ∷ drop (i + 1) xs
drop_at [] i x e = absurd (cc)
drop_at (y ∷ xs) zero x e = let same : y ≡ x = cc in rw same refl
drop_at (y ∷ xs) (suc i) x e = let n : suc i + 1 ≡ suc (i + 1) = omega arith in rw n (drop_at xs i x e)

pub drop_past : {A : Type 0} (xs : List A) (i : ℕ) → length xs ≤ i → drop i xs ≡ []
drop_past [] zero h = refl
drop_past [] (suc i) h = refl
drop_past (x ∷ xs) zero h = absurd (omega (arith, h))
drop_past (x ∷ xs) (suc i) h = drop_past xs i (omega (arith, h))

pub get_drop : {A : Type 0} (xs : List A) (f i : ℕ) → slice_get (drop f xs) i ≡ slice_get xs (f + i)
get_drop xs zero i = ap (slice_get xs) (let e : i ≡ 0 + i = omega arith in e)
get_drop [] (suc f) i = refl
get_drop (x ∷ xs) (suc f) i = get_drop xs f i ∙ ap (slice_get (x ∷ xs)) (let e : suc (f + i) ≡ suc f + i = omega arith in e)

pub take_next : {A : Type 0} (xs : List A) (i : ℕ) (x : A) → i < length xs → x ≡ get_or xs i x → take (i + 1) xs ≡ take i xs ++ x ∷ []
take_next xs i x lt is = take_more xs i x lt ∙ ap (λ y. take i xs ++ y ∷ []) (sym is)

pub take_past : {A : Type 0} (xs : List A) (n : ℕ) → length xs ≤ n → take n xs ≡ xs
take_past [] zero h = refl
take_past [] (suc n) h = refl
take_past (x ∷ xs) zero h = absurd (omega (arith, h))
take_past (x ∷ xs) (suc n) h = ap (λ ys. x ∷ ys) (take_past xs n (omega (arith, h)))

pub grows_same : {A : Type 0} (xs : List A) → Grows xs xs
grows_same xs = take_past xs (length xs) (omega arith)

pub taken_length : {A : Type 0} (n : ℕ) (xs : List A) → n ≤ length xs → length (take n xs) ≡ n
taken_length zero xs h = refl
taken_length (suc n) [] h = absurd (omega (arith, h))
taken_length (suc n) (x ∷ xs) h = ap suc (taken_length n xs (omega (arith, h)))

pub kept_same : {A : Type 0} (kept : ℕ) (xs ys : List A) → kept ≤ length xs → Grows (take kept xs) ys → take kept ys ≡ take kept xs
kept_same kept xs ys le g = ap (λ n. take n ys) (sym (taken_length kept xs le)) ∙ g

pub kept_within : {A : Type 0} (kept : ℕ) (xs ys : List A) → kept ≤ length xs → Grows (take kept xs) ys → kept ≤ length ys
kept_within kept xs ys le g = let a = grown_length (take kept xs) ys g in let b = taken_length kept xs le in omega (arith, a, b)
