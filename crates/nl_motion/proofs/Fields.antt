-- The field of a variable, patch by patch.
use Rattle.std.proofs.Common.{◌≡◌, ℕ, zero, suc, ◌+◌, ◌<◌, Bool, true, false, ◌&&◌, List, [], ◌∷◌, ◌++◌, length, map, get_or, ℤ, pos, Option, Some, None, sym, ap, ◌∙◌, subst, if◌then◌else◌, arith}
use Rattle.std.specs.Prelude.{is_some}
use Rattle.std.specs.List.{list_all, range_with_len}
use Rattle.std.proofs.lemmas.List.{map-append}
use Rattle.std.proofs.lemmas.List.Folds.{list_all-append, list_all_at}
use Rattle.std.proofs.lemmas.List.FromFn.{length-range_with_len, get_or-range_with_len, map-range_with_len_more, length-map-range_with_len, get_or-map-range_with_len}
use Rattle.std.proofs.lemmas.Bool.{false≢true}
use Rattle.std.proofs.lemmas.Option.{none-some, same_Some}
use Rattle.nl_fixed.specs.Numbers.{number_at, in_range}
use Rattle.nl_grid.proofs.RangeLemmas.{by_test}
use Rattle.nl_motion.specs.Motion.{or_zero}
use Rattle.nl_motion.specs.Diffusion.{are_in_range}

range_push_suc : (a n : ℕ) → range_with_len a (suc n) ≡ range_with_len a n ++ (a + n) ∷ []
range_push_suc a zero = let e : a ≡ a + 0 = omega arith in ap (λ x. x ∷ []) e
range_push_suc a (suc n) =
    let e : a + 1 + n ≡ a + suc n = omega arith in
    ap (λ xs. a ∷ xs) (range_push_suc (a + 1) n ∙ ap (λ x. range_with_len (a + 1) n ++ x ∷ []) e)

-- one number more
pub range_push : (n : ℕ) → range_with_len 0 (n + 1) ≡ range_with_len 0 n ++ n ∷ []
range_push n =
    let e : n + 1 ≡ suc n = omega arith in
    let f : 0 + n ≡ n = omega arith in
    ap (range_with_len 0) e ∙ range_push_suc 0 n ∙ ap (λ x. range_with_len 0 n ++ x ∷ []) f

module _ (number : ℕ → Option ℤ) where
  abbrev pub counts : ℕ → List ℤ
  counts n = map (λ patch. or_zero (number patch)) (range_with_len 0 n)

  abbrev pub all_there : ℕ → Bool
  all_there n = list_all (λ patch. is_some (number patch)) (range_with_len 0 n)

  pub counts_more : (n : ℕ) (count : ℤ) (items more : List ℤ) → Some count ≡ number n → more ≡ items ++ count ∷ [] → items ≡ counts n → more ≡ counts (n + 1)
  counts_more n count items more there pushed so_far =
      pushed ∙ ap (λ xs. xs ++ count ∷ []) so_far ∙ ap (λ o. counts n ++ or_zero o ∷ []) there
      ∙ sym (ap (map (λ patch. or_zero (number patch))) (range_push n) ∙ map-append (λ patch. or_zero (number patch)) (range_with_len 0 n) (n ∷ []))

  pub all_more : (n : ℕ) (count : ℤ) → Some count ≡ number n → all_there n ≡ true → all_there (n + 1) ≡ true
  all_more n count there so_far =
      ap (list_all (λ patch. is_some (number patch))) (range_push n) ∙ list_all-append (λ patch. is_some (number patch)) (range_with_len 0 n) (n ∷ [])
      ∙ ap (λ b. b && (is_some (number n) && true)) so_far ∙ ap (λ o. is_some o && true) (sym there)

  pub not_all : (n k : ℕ) → k < n → None ≡ number k → all_there n ≡ false
  not_all n k below none =
      let within : k < length (range_with_len 0 n) = subst (λ m. k < m) (sym (length-range_with_len 0 n)) below in
      let f : 0 + k ≡ k = omega arith in
      list_all_at (λ patch. is_some (number patch)) (range_with_len 0 n) k 0 within
      (ap (λ patch. is_some (number patch)) (get_or-range_with_len 0 n k 0 below ∙ f) ∙ ap (λ (o : Option ℤ). is_some o) (sym none))

-- a test that all of a list pass is passed by each
pub passes_at : {X : Type 0} (test : X → Bool) (xs : List X) (k : ℕ) (d : X) → list_all test xs ≡ true → k < length xs → test (get_or xs k d) ≡ true
passes_at test xs k d all within =
    by_test (test (get_or xs k d)) (λ passes. passes) (λ fails. absurd (false≢true (sym (list_all_at test xs k d within fails) ∙ all)))

pub there_at : (number : ℕ → Option ℤ) (n k : ℕ) → all_there number n ≡ true → k < n → is_some (number k) ≡ true
there_at number n k all below =
    let within : k < length (range_with_len 0 n) = subst (λ m. k < m) (sym (length-range_with_len 0 n)) below in
    let f : 0 + k ≡ k = omega arith in
    sym (ap (λ patch. is_some (number patch)) (get_or-range_with_len 0 n k 0 below ∙ f)) ∙ passes_at (λ patch. is_some (number patch)) (range_with_len 0 n) k 0 all within

-- ---- counts that are numbers

pub in_range_at : (x count : ℤ) → Some x ≡ number_at count → (x ≡ count) × (in_range count ≡ true)
in_range_at x count is =
    by_test (in_range count) (λ t. (same_Some x count (is ∙ ap (λ b. if b then Some count else None) t), t))
    (λ f. absurd (none-some x (sym (is ∙ ap (λ b. if b then Some count else None) f))))

pub out_of_range : (count : ℤ) → None ≡ number_at count → in_range count ≡ false
out_of_range count is =
    by_test (in_range count) (λ t. absurd (none-some count (is ∙ ap (λ b. if b then Some count else None) t))) (λ f. f)

module _ (count : ℕ → ℤ) where
  pub mapped_more : (n : ℕ) (items more : List ℤ) (x : ℤ) → Some x ≡ number_at (count n) → more ≡ items ++ x ∷ [] → items ≡ map count (range_with_len 0 n)
      → more ≡ map count (range_with_len 0 (n + 1))
  mapped_more n items more x there pushed so_far =
      let e : 0 + n ≡ n = omega arith in
      pushed ∙ ap (λ xs. xs ++ x ∷ []) so_far ∙ ap (λ y. map count (range_with_len 0 n) ++ y ∷ []) (in_range_at x (count n) there).0
      ∙ sym (map-range_with_len_more count 0 n n e)

  pub range_more : (n : ℕ) (x : ℤ) → Some x ≡ number_at (count n) → are_in_range (map count (range_with_len 0 n)) ≡ true
      → are_in_range (map count (range_with_len 0 (n + 1))) ≡ true
  range_more n x there so_far =
      let e : 0 + n ≡ n = omega arith in
      ap are_in_range (map-range_with_len_more count 0 n n e) ∙ list_all-append in_range (map count (range_with_len 0 n)) (count n ∷ [])
      ∙ ap (λ b. b && (in_range (count n) && true)) so_far ∙ ap (λ b. b && true) (in_range_at x (count n) there).1

  pub range_broken : (n k : ℕ) → k < n → None ≡ number_at (count k) → are_in_range (map count (range_with_len 0 n)) ≡ false
  range_broken n k below none =
      let within : k < length (map count (range_with_len 0 n)) = subst (λ m. k < m) (sym (length-map-range_with_len count 0 n)) below in
      let e : 0 + k ≡ k = omega arith in
      list_all_at in_range (map count (range_with_len 0 n)) k (pos 0) within
      (ap in_range (get_or-map-range_with_len count 0 n k k (pos 0) below e) ∙ out_of_range (count k) none)
