-- The best number of answers: a number is behind some other exactly where it is behind the best.
use Rattle.std.proofs.Common.{◌≡◌, ℤ, ◌||◌, Bool, true, false, not, cond, if◌then◌else◌, List, [], ◌∷◌, ◌++◌, filter, Option, Some, None, refl, ap, sym, ◌∙◌}
use Rattle.std.specs.Prelude.{int_lt}
use Rattle.std.specs.List.{list_any}
use Rattle.std.specs.Ordering.{int_cmp, is_lt}
use Rattle.std.specs.declared.cmp.Ordering.TheVariants.{Less, Equal, Greater}
use Rattle.std.specs.Cmp.{IsStrictWeakOrder}
use Rattle.std.proofs.lemmas.Bool.{false≢true, or_left, or_right, false_from_ne_true}
use Rattle.std.proofs.lemmas.Cmp.{int_cmp_total}
use Rattle.std.proofs.lemmas.List.Folds.{list_any-append}
use Rattle.std.proofs.lemmas.List.Sorted.{ranks_by, IsStrictWeakOrder-flip}
use Rattle.nl_value.specs.Order.{count_of}
use Rattle.nl_exec_meaning.specs.Walks.{Answer, is_extreme, extremes, members_kept}
use Rattle.nl_exec_walks.specs.Extremes.{beyond, IsBest, IsBestOf}
use Rattle.nl_exec_walks.specs.inner.Passes.{better, reaches}

-- ---- the order of numbers, either way round

less_is : (a b : Bool) → is_lt (cond a Less (cond b Greater Equal)) ≡ a
less_is true b = refl
less_is false true = refl
less_is false false = refl

pub int_less : (x y : ℤ) → is_lt (int_cmp x y) ≡ int_lt x y
int_less x y = less_is (int_lt x y) (int_lt y x)

int_order : IsStrictWeakOrder int_lt
int_order =
    let o = ranks_by int_cmp_total (λ (x : ℤ). x) in
    record {
      one_way = λ x y h. sym (int_less y x) ∙ o.one_way x y (int_less x y ∙ h);
      chain = λ x y z h k. sym (int_less x z) ∙ o.chain x y z (int_less x y ∙ h) (int_less y z ∙ k);
    }

pub beyond_order : (up : Bool) → IsStrictWeakOrder (beyond up)
beyond_order true = int_order
beyond_order false = IsStrictWeakOrder-flip int_lt int_order

-- ---- the best

any_false_parts : (a b : Bool) → (a || b) ≡ false → (a ≡ false) × (b ≡ false)
any_false_parts true b h = absurd (false≢true (sym h))
any_false_parts false b h = (refl, h)

abbrev number : Answer → ℤ
number a = count_of a.value

module _ (up : Bool) where
  itself : (k : ℤ) → beyond up k k ≡ false
  itself k = false_from_ne_true (beyond up k k) (λ h. false≢true (sym ((beyond_order up).one_way k k h) ∙ h))

  far : (k best : ℤ) (made : List Answer) → beyond up k best ≡ false → list_any (λ a. beyond up best (number a)) made ≡ false → list_any (λ a. beyond up k (number a)) made ≡ false
  far k best [] h none = refl
  far k best (a ∷ made) h none =
      let parts = any_false_parts (beyond up best (number a)) (list_any (λ b. beyond up best (number b)) made) none in
      rw ((beyond_order up).chain k best (number a) h parts.0) (far k best made h parts.1)

  here : (k best n : ℤ) → beyond up k best ≡ true → not (beyond up n best) ≡ true → beyond up k n ≡ true
  here k best n h not_below = by (beyond up k n) refl (beyond up n best) refl
    where
      by : (b : Bool) → beyond up k n ≡ b → (d : Bool) → beyond up n best ≡ d → beyond up k n ≡ true
      by true is d other = is
      by false is true other = absurd (false≢true (sym (ap not other) ∙ not_below))
      by false is false other = absurd (false≢true (sym ((beyond_order up).chain k n best is other) ∙ h))

  near : (k best : ℤ) (made : List Answer) → beyond up k best ≡ true → list_any (λ a. not (beyond up (number a) best)) made ≡ true → list_any (λ a. beyond up k (number a)) made ≡ true
  near k best [] h some = absurd (false≢true some)
  near k best (a ∷ made) h some = by (not (beyond up (number a) best)) refl (near k best made h)
    where
      by : (b : Bool) → not (beyond up (number a) best) ≡ b
          → (list_any (λ d. not (beyond up (number d) best)) made ≡ true → list_any (λ d. beyond up k (number d)) made ≡ true)
          → (beyond up k (number a) || list_any (λ d. beyond up k (number d)) made) ≡ true
      by true is rest = or_left (beyond up k (number a)) _ (here k best (number a) h is)
      by false is rest =
          let among : list_any (λ d. not (beyond up (number d) best)) made ≡ true = sym (ap (λ b. b || list_any (λ d. not (beyond up (number d) best)) made) is) ∙ some in
          or_right (beyond up k (number a)) _ (rest among)

  -- some number is beyond one exactly where the best is
  beyond_best : (best : ℤ) (made : List Answer) → IsBest up best made → (k : ℤ) → list_any (λ a. beyond up k (number a)) made ≡ beyond up k best
  beyond_best best made is k = by (beyond up k best) refl
    where
      by : (b : Bool) → beyond up k best ≡ b → list_any (λ a. beyond up k (number a)) made ≡ beyond up k best
      by true h = near k best made h is.some ∙ sym h
      by false h = far k best made h is.none ∙ sym h

  same_filter : (p q : Answer → Bool) (made : List Answer) → ((a : Answer) → p a ≡ q a) → filter p made ≡ filter q made
  same_filter p q [] h = refl
  same_filter p q (a ∷ made) h = rw (h a, same_filter p q made h) refl

  -- the extremes are the members whose number reaches the best
  pub extremes_are : (best : ℤ) (made : List Answer) → IsBest up best made → extremes up made ≡ members_kept (filter (reaches up best) made)
  extremes_are best made is =
      ap members_kept (same_filter (is_extreme up made) (reaches up best) made (λ a. ap not (beyond_best best made is (number a))))

  -- ---- one more answer

  grown : (p : Answer → Bool) (made : List Answer) (a : Answer) → list_any p (made ++ a ∷ []) ≡ (list_any p made || (p a || false))
  grown p made a = list_any-append p made (a ∷ [])

  none_grown : (p : Answer → Bool) (made : List Answer) (a : Answer) → list_any p made ≡ false → p a ≡ false → list_any p (made ++ a ∷ []) ≡ false
  none_grown p made a h k = grown p made a ∙ rw (h, k) refl

  last_grown : (p : Answer → Bool) (made : List Answer) (a : Answer) → p a ≡ true → list_any p (made ++ a ∷ []) ≡ true
  last_grown p made a k = grown p made a ∙ or_right (list_any p made) _ (rw k refl)

  some_grown : (p : Answer → Bool) (made : List Answer) (a : Answer) → list_any p made ≡ true → list_any p (made ++ a ∷ []) ≡ true
  some_grown p made a h = grown p made a ∙ or_left (list_any p made) _ h

  alone : (a : Answer) (made : List Answer) → list_any (λ b. beyond up (number a) (number b)) made ≡ false → IsBest up (number a) (made ++ a ∷ [])
  alone a made none = record {
    none = none_grown (λ b. beyond up (number a) (number b)) made a none (itself (number a));
    some = last_grown (λ b. not (beyond up (number b) (number a))) made a (ap not (itself (number a)));
  }

  more_by : (best : ℤ) (made : List Answer) (a : Answer) (b : Bool) → beyond up best (number a) ≡ b → IsBest up best made → IsBest up (if b then number a else best) (made ++ a ∷ [])
  more_by best made a true past is = alone a made (far (number a) best made ((beyond_order up).one_way best (number a) past) is.none)
  more_by best made a false past is = record {
    none = none_grown (λ d. beyond up best (number d)) made a is.none past;
    some = some_grown (λ d. not (beyond up (number d) best)) made a is.some;
  }

  pub best_more : (known : Option ℤ) (made : List Answer) (a : Answer) → IsBestOf up known made → IsBest up (better up known (number a)) (made ++ a ∷ [])
  best_more None made a is = alone a made (ap (list_any (λ b. beyond up (number a) (number b))) is)
  best_more (Some best) made a is = more_by best made a (beyond up best (number a)) refl is
