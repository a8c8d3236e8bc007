-- A local by the number of its name is the local of that name.
use Rattle.std.proofs.Common.{◌-◌, ◌≤◌, get_or, ◌≡◌, ◌==◌, ℕ, zero, suc, ◌+◌, ◌<◌, Bool, true, false, List, [], ◌∷◌, ◌++◌, Some, None, map, length, take, slice_get, slice_set, bytes_eq, refl, ap, ◌∙◌, sym, arith, cond}
use Rattle.std.specs.Option.{option_map}
use Rattle.std.proofs.lemmas.Slice.Eq.{bytes_eq-Decides}
use Rattle.std.proofs.lemmas.Bool.{eqb-true, eq-eqb}
use Rattle.std.proofs.lemmas.Option.{slice_get-map}
use Rattle.std.proofs.lemmas.List.{take_more}
use Rattle.nl_fixed.specs.Nouns.{Names}
use Rattle.nl_exec_meaning.specs.Code.{name_of, IsOneToOne}
use Rattle.nl_exec_meaning.specs.Variables.{later, last_index, newest}
use Rattle.nl_exec_meaning.specs.Kept.{Kept, held, all_held}

same_by : (p q : Bool) → (p ≡ true → q ≡ true) → (q ≡ true → p ≡ true) → p ≡ q
same_by true q f g = sym (f refl)
same_by false true f g = absurd (let e = g refl in cc)
same_by false false f g = refl

same_test : (names : Names) → IsOneToOne names → (a b : ℕ) → bytes_eq (name_of names a) (name_of names b) ≡ (a == b)
same_test names h a b =
    same_by (bytes_eq (name_of names a) (name_of names b)) (a == b)
    (λ e. eq-eqb a b (h a b ((bytes_eq-Decides (name_of names a) (name_of names b)).0 e)))
    (λ e. (bytes_eq-Decides (name_of names a) (name_of names b)).1 (ap (name_of names) (eqb-true a b e)))

pub newest_is : (names : Names) (ks : List Kept) (id : ℕ) → IsOneToOne names →
    newest (name_of names id) (all_held names ks) ≡ last_index (λ k. k.id == id) ks
newest_is names [] id h = refl
newest_is names (k ∷ ks) id h = rw (newest_is names ks id h, same_test names h k.id id) refl

pub held_at : (names : Names) (ks : List Kept) (i : ℕ) → slice_get (all_held names ks) i ≡ option_map (held names) (slice_get ks i)
held_at names ks i = slice_get-map (held names) ks i

pub held_set : (names : Names) (ks : List Kept) (i : ℕ) (k : Kept) → slice_set (all_held names ks) i (held names k) ≡ all_held names (slice_set ks i k)
held_set names [] i k = refl
held_set names (x ∷ ks) zero k = refl
held_set names (x ∷ ks) (suc i) k = ap (λ xs. held names x ∷ xs) (held_set names ks i k)

pub held_take : (names : Names) (ks : List Kept) (n : ℕ) → take n (all_held names ks) ≡ all_held names (take n ks)
held_take names ks zero = refl
held_take names [] (suc n) = refl
held_take names (k ∷ ks) (suc n) = ap (λ xs. held names k ∷ xs) (held_take names ks n)

pub held_push : (names : Names) (ks : List Kept) (k : Kept) → all_held names (ks ++ k ∷ []) ≡ all_held names ks ++ held names k ∷ []
held_push names [] k = refl
held_push names (x ∷ ks) k = ap (λ xs. held names x ∷ xs) (held_push names ks k)

pub held_length : (names : Names) (ks : List Kept) → length (all_held names ks) ≡ length ks
held_length names [] = refl
held_length names (k ∷ ks) = ap suc (held_length names ks)

-- ---- the newest of a list that grows at its end

pub last_index_snoc : {A : Type 0} (test : A → Bool) (xs : List A) (x : A) →
    last_index test (xs ++ x ∷ []) ≡ cond (test x) (Some (length xs)) (last_index test xs)
last_index_snoc test [] x = elim (test x) as (λ b. later None b ≡ cond b (Some 0) None) [ true ↦ refl | false ↦ refl ]
last_index_snoc test (y ∷ xs) x = rw (last_index_snoc test xs x)
    (elim (test x) as (λ b. later (cond b (Some (length xs)) (last_index test xs)) (test y) ≡ cond b (Some (suc (length xs))) (later (last_index test xs) (test y))) [ true ↦ refl | false ↦ refl ])

taken_length : {A : Type 0} (n : ℕ) (xs : List A) → n ≤ length xs → length (take n xs) ≡ n
taken_length zero xs h = refl
taken_length (suc n) [] h = absurd (omega (arith, h))
taken_length (suc n) (x ∷ xs) h = ap suc (taken_length n xs (omega (arith, h)))

pub newest_more : {A : Type 0} (test : A → Bool) (xs : List A) (left : ℕ) (d : A) → 0 < left → left ≤ length xs →
    last_index test (take left xs) ≡ cond (test (get_or xs (left - 1) d)) (Some (left - 1)) (last_index test (take (left - 1) xs))
newest_more test xs left d some within =
    let i : left ≡ left - 1 + 1 = omega arith in
    let n = taken_length (left - 1) xs (omega arith) in
    ap (λ m. last_index test (take m xs)) i
    ∙ ap (last_index test) (take_more xs (left - 1) d (omega arith))
    ∙ last_index_snoc test (take (left - 1) xs) (get_or xs (left - 1) d)
    ∙ ap (λ m. cond (test (get_or xs (left - 1) d)) (Some m) (last_index test (take (left - 1) xs))) n

pub not_same : (a b : ℕ) → (a ≡ b → ⊥) → (a == b) ≡ false
not_same a b h = same_by (a == b) false (λ e. absurd (h (eqb-true a b e))) (λ e. absurd (cc))

pub last_index_map : {A B : Type 0} (f : A → B) (test : B → Bool) (xs : List A) → last_index (λ x. test (f x)) xs ≡ last_index test (map f xs)
last_index_map f test [] = refl
last_index_map f test (x ∷ xs) = ap (λ found. later found (test (f x))) (last_index_map f test xs)
