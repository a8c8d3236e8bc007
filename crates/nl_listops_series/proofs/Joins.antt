-- Texts of values joined one after another.
use Rattle.std.proofs.Common.{◌≡◌, ℕ, zero, suc, ◌+◌, ◌<◌, ◌≤◌, Bool, true, false, ◌&&◌, Ok, Err, List, [], ◌∷◌, ◌++◌, length, map, take, get_or, refl, sym, ap, ◌∙◌, arith, nat_le, if◌then◌else◌, append_assoc}
use Rattle.std.specs.List.{concat, list_all}
use Rattle.std.proofs.lemmas.List.{append-nil, length-append}
use Rattle.nl_fixed.specs.Nouns.{Bytes}
use Rattle.nl_value.specs.Plain.{PlainWords}
use Rattle.nl_value.specs.Limits.{most_bytes}
use Rattle.nl_listops_series.specs.declared.fail.ListFail.TheVariants.{TooLarge}
use Rattle.nl_listops_series.specs.Outcomes.{kept_within}

-- ---- an item of a list that passes a test

pub item_passes : {A X : Type 0} (f : A → X) (test : X → Bool) (values : List A) (i : ℕ) (v : A) → list_all test (map f values) ≡ true → i < length values → v ≡ get_or values i v →
    test (f v) ≡ true
item_passes f test [] i v all h is = absurd (omega arith)
item_passes f test (value ∷ values) zero v all h is = ap (λ x. test (f x)) is ∙ (both (test (f value)) (list_all test (map f values)) all).0
  where
    both : (p q : Bool) → (p && q) ≡ true → (p ≡ true) × (q ≡ true)
    both true q e = (refl, e)
    both false q e = cc
item_passes f test (value ∷ values) (suc i) v all h is = item_passes f test values i v (both (test (f value)) (list_all test (map f values)) all).1 (omega arith) is
  where
    both : (p q : Bool) → (p && q) ≡ true → (p ≡ true) × (q ≡ true)
    both true q e = (refl, e)
    both false q e = cc

-- ---- texts end to end

pub joined_more : {A X : Type 0} (f : A → X) (g : X → Bytes) (values : List A) (i : ℕ) (v : A) → i < length values → v ≡ get_or values i v →
    concat (map g (map f (take (i + 1) values))) ≡ concat (map g (map f (take i values))) ++ g (f v)
joined_more f g [] i v h is = absurd (omega arith)
joined_more f g (value ∷ values) zero v h is = append-nil (g (f value)) ∙ sym (ap (λ x. g (f x)) is)
joined_more f g (value ∷ values) (suc i) v h is =
    ap (λ n. concat (map g (map f (take n (value ∷ values))))) (next i)
    ∙ (ap (λ s. g (f value) ++ s) (joined_more f g values i v (omega arith) is) ∙ sym (append_assoc (g (f value)) (concat (map g (map f (take i values)))) (g (f v))))
  where
    next : (n : ℕ) → suc n + 1 ≡ suc (n + 1)
    next n = omega arith

pub joined_long : {A X : Type 0} (f : A → X) (g : X → Bytes) (values : List A) (i : ℕ) (v : A) → i < length values → v ≡ get_or values i v →
    length (concat (map g (map f (take i values)))) + length (g (f v)) ≤ length (concat (map g (map f values)))
joined_long f g [] i v h is = absurd (omega arith)
joined_long f g (value ∷ values) zero v h is =
    let long = length-append (g (f value)) (concat (map g (map f values))) in
    let same = ap (λ x. length (g (f x))) is in
    omega arith
joined_long f g (value ∷ values) (suc i) v h is =
    let long = length-append (g (f value)) (concat (map g (map f values))) in
    let front = length-append (g (f value)) (concat (map g (map f (take i values)))) in
    let rest = joined_long f g values i v (omega arith) is in
    omega arith

-- ---- the limit

pub too_large : (bytes : Bytes) → most_bytes < length bytes → kept_within (PlainWords bytes) ≡ Err TooLarge
too_large bytes h =
    let test : nat_le (1 + length bytes) 1000000 ≡ false = grind arith in
    ap (λ b. if b && true then Ok (PlainWords bytes) else Err TooLarge) test

pub not_too_large : (bytes : Bytes) → length bytes ≤ most_bytes → kept_within (PlainWords bytes) ≡ Ok (PlainWords bytes)
not_too_large bytes h =
    let test : nat_le (1 + length bytes) 1000000 ≡ true = grind arith in
    ap (λ b. if b && true then Ok (PlainWords bytes) else Err TooLarge) test
