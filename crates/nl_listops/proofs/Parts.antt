-- What passes for each item of a list passes for each item of what words make of the list.
use Rattle.std.proofs.Common.{◌≡◌, ℕ, zero, suc, ◌+◌, ◌-◌, Bool, true, false, ◌&&◌, Some, List, [], ◌∷◌, ◌++◌, length, take, drop, reverse, filter, swap, slice_get, slice_set, get_or, refl, sym, ap, ◌∙◌, cond, if◌then◌else◌}
use Rattle.std.specs.List.{list_all, splice}
use Rattle.std.proofs.lemmas.Bool.{false≢true}
use Rattle.std.proofs.lemmas.List.{reverse-append}
use Rattle.nl_draw.specs.Stream.{drawn, shuffled, shuffled_from}
use Rattle.nl_value.specs.Sorting.{inserted, sorted_by}

both : (p q : Bool) → (p && q) ≡ true → (p ≡ true) × (q ≡ true)
both true q e = (refl, e)
both false q e = absurd (false≢true e)

module _ {X : Type 0} (test : X → Bool) where
  abbrev pub Pass : List X → Type 0
  Pass xs = list_all test xs ≡ true

  pub head : (x : X) (xs : List X) → Pass (x ∷ xs) → test x ≡ true
  head x xs all = (both (test x) (list_all test xs) all).0

  pub tail : (x : X) (xs : List X) → Pass (x ∷ xs) → Pass xs
  tail x xs all = (both (test x) (list_all test xs) all).1

  pub onto : (x : X) (xs : List X) → test x ≡ true → Pass xs → Pass (x ∷ xs)
  onto x xs first rest = ap (λ b. b && list_all test xs) first ∙ rest

  pub pass_both : (xs ys : List X) → Pass xs → Pass ys → Pass (xs ++ ys)
  pass_both [] ys front back = back
  pass_both (x ∷ xs) ys front back = onto x (xs ++ ys) (head x xs front) (pass_both xs ys (tail x xs front) back)

  pub pass_take : (n : ℕ) (xs : List X) → Pass xs → Pass (take n xs)
  pass_take zero xs all = refl
  pass_take (suc n) [] all = refl
  pass_take (suc n) (x ∷ xs) all = onto x (take n xs) (head x xs all) (pass_take n xs (tail x xs all))

  pub pass_drop : (n : ℕ) (xs : List X) → Pass xs → Pass (drop n xs)
  pass_drop zero xs all = all
  pass_drop (suc n) [] all = refl
  pass_drop (suc n) (x ∷ xs) all = pass_drop n xs (tail x xs all)

  pub pass_splice : (xs : List X) (from to : ℕ) (ys : List X) → Pass xs → Pass ys → Pass (splice xs from to ys)
  pass_splice xs from to ys all others = pass_both (take from xs) (ys ++ drop to xs) (pass_take from xs all) (pass_both ys (drop to xs) others (pass_drop to xs all))

  pub pass_reverse : (xs : List X) → Pass xs → Pass (reverse xs)
  pass_reverse [] all = refl
  pass_reverse (x ∷ xs) all =
      ap (list_all test) (reverse-append (x ∷ []) xs) ∙ pass_both (reverse xs) (x ∷ []) (pass_reverse xs (tail x xs all)) (onto x [] (head x xs all) refl)

  pub pass_get : (xs : List X) (i : ℕ) (x : X) → Pass xs → slice_get xs i ≡ Some x → test x ≡ true
  pass_get [] i x all is = cc
  pass_get (y ∷ ys) zero x all is = let same : y ≡ x = cc in ap test (sym same) ∙ head y ys all
  pass_get (y ∷ ys) (suc i) x all is = pass_get ys i x (tail y ys all) is

  kept_by : (b : Bool) (x : X) (xs : List X) → test x ≡ true → Pass xs → Pass (cond b (x ∷ xs) xs)
  kept_by true x xs first rest = onto x xs first rest
  kept_by false x xs first rest = rest

  pub pass_filter : (keep : X → Bool) (xs : List X) → Pass xs → Pass (filter keep xs)
  pass_filter keep [] all = refl
  pass_filter keep (x ∷ xs) all = kept_by (keep x) x (filter keep xs) (head x xs all) (pass_filter keep xs (tail x xs all))

  placed_by : (b : Bool) (x y : X) (ys more : List X) → test x ≡ true → Pass (y ∷ ys) → Pass more → Pass (if b then y ∷ more else x ∷ (y ∷ ys))
  placed_by true x y ys more first rest inner = onto y more (head y ys rest) inner
  placed_by false x y ys more first rest inner = onto x (y ∷ ys) first rest

  pass_inserted : (lt : X → X → Bool) (x : X) (ys : List X) → test x ≡ true → Pass ys → Pass (inserted lt x ys)
  pass_inserted lt x [] first rest = onto x [] first refl
  pass_inserted lt x (y ∷ ys) first rest = placed_by (lt y x) x y ys (inserted lt x ys) first rest (pass_inserted lt x ys first (tail y ys rest))

  pub pass_sorted : (lt : X → X → Bool) (xs : List X) → Pass xs → Pass (sorted_by lt xs)
  pass_sorted lt [] all = refl
  pass_sorted lt (x ∷ xs) all = pass_inserted lt x (sorted_by lt xs) (head x xs all) (pass_sorted lt xs (tail x xs all))

  pass_set : (xs : List X) (i : ℕ) (v : X) → Pass xs → test v ≡ true → Pass (slice_set xs i v)
  pass_set [] i v all new = refl
  pass_set (x ∷ xs) zero v all new = onto v xs new (tail x xs all)
  pass_set (x ∷ xs) (suc i) v all new = onto x (slice_set xs i v) (head x xs all) (pass_set xs i v (tail x xs all) new)

  pass_read : (xs : List X) (i : ℕ) (d : X) → Pass xs → test d ≡ true → test (get_or xs i d) ≡ true
  pass_read [] i d all other = other
  pass_read (x ∷ xs) zero d all other = head x xs all
  pass_read (x ∷ xs) (suc i) d all other = pass_read xs i d (tail x xs all) other

  pass_swap : (xs : List X) (i j : ℕ) → Pass xs → Pass (swap xs i j)
  pass_swap [] i j all = refl
  pass_swap (x ∷ xs) i j all =
      let first = head x xs all in
      pass_set (slice_set (x ∷ xs) i (get_or (x ∷ xs) j x)) j (get_or (x ∷ xs) i x) (pass_set (x ∷ xs) i (get_or (x ∷ xs) j x) all (pass_read (x ∷ xs) j x all first)) (pass_read (x ∷ xs) i x all first)

  pass_shuffled_from : (n : ℕ) (xs : List X) (state : ℕ) → Pass xs → Pass (shuffled_from n xs state).0
  unfolding shuffled_from
  pass_shuffled_from zero xs state all = all
  pass_shuffled_from (suc n) xs state all =
      let other = drawn (suc n + 1) state in
      pass_shuffled_from n (swap xs (suc n) other.0) other.1 (pass_swap xs (suc n) other.0 all)

  pub pass_shuffled : (xs : List X) (state : ℕ) → Pass xs → Pass (shuffled xs state).0
  unfolding shuffled
  pass_shuffled xs state all = pass_shuffled_from (length xs - 1) xs state all
