-- Parts of lists of values, as parts of the lists of what these are.
use Rattle.std.proofs.Common.{◌≡◌, ℕ, suc, ◌+◌, ◌-◌, ◌≤◌, ℤ, Some, Ok, Err, List, [], ◌∷◌, ◌++◌, length, map, take, drop, reverse, refl, sym, ap, ◌∙◌, arith, nat_lt, nat_le, true, ◌&&◌, if◌then◌else◌}
use Rattle.std.proofs.lemmas.List.{take-map, drop-map, take_rest, map-append, reverse-append, length-map}
use Rattle.std.specs.List.{splice}
use Rattle.nl_value.specs.Plain.{Plain, plains, items_of}
use Rattle.nl_listops_series.specs.declared.fail.ListFail.TheVariants.{OutOfList}
use Rattle.nl_listops_series.specs.Outcomes.{and_then}
use Rattle.nl_listops_series.specs.Places.{index_of, place_below, below, without_at, replaced_at, inserted_at, without_last, part_of, between}

-- the items of a list as a value are the list
pub items_of-plains : (ps : List Plain) → items_of (plains ps) ≡ ps
items_of-plains [] = refl
items_of-plains (p ∷ ps) = ap (λ rest. p ∷ rest) (items_of-plains ps)

pub reverse-map : {A X : Type 0} (f : A → X) (xs : List A) → map f (reverse xs) ≡ reverse (map f xs)
reverse-map f [] = refl
reverse-map f (x ∷ xs) =
    ap (map f) (reverse-append (x ∷ []) xs)
    ∙ (map-append f (reverse xs) (x ∷ [])
    ∙ (ap (λ ys. ys ++ f x ∷ []) (reverse-map f xs)
    ∙ sym (reverse-append (f x ∷ []) (map f xs))))

module _ {A X : Type 0} (f : A → X) (values : List A) (xs : List X) (seen : map f values ≡ xs) where
  front_is : (n : ℕ) → map f (take n values) ≡ take n xs
  front_is n = sym (take-map f n values) ∙ ap (take n) seen

  rest_is : (n : ℕ) → map f (drop n values) ≡ drop n xs
  rest_is n = sym (drop-map f n values) ∙ ap (drop n) seen

  -- as a slice to the end writes it
  back_is : (n : ℕ) → map f (take (length values - n) (drop n values)) ≡ drop n xs
  back_is n = ap (map f) (take_rest values n) ∙ rest_is n

  long : length values ≡ length xs
  long = sym (length-map values f) ∙ ap length seen

  pub without_at_is : (number : ℤ) (place : ℕ) (all : List X) → Ok place ≡ place_below number (length xs) →
      all ≡ map f (take place values) ++ map f (take (length values - (place + 1)) (drop (place + 1) values)) →
      without_at number xs ≡ Ok all
  without_at_is number place all found is =
      let front = front_is place in
      let back = back_is (place + 1) in
      ap (λ o. and_then o (λ p. Ok (splice xs p (p + 1) []))) (sym found)
      ∙ ap Ok (sym (is ∙ (ap (λ s. s ++ map f (take (length values - (place + 1)) (drop (place + 1) values))) front ∙ ap (λ s. take place xs ++ s) back)))

  pub replaced_at_is : (number : ℤ) (place : ℕ) (x : X) (all : List X) → Ok place ≡ place_below number (length xs) →
      all ≡ map f (take place values) ++ (x ∷ map f (take (length values - (place + 1)) (drop (place + 1) values))) →
      replaced_at number xs (x ∷ []) ≡ Ok all
  replaced_at_is number place x all found is =
      let front = front_is place in
      let back = back_is (place + 1) in
      ap (λ o. and_then o (λ p. Ok (splice xs p (p + 1) (x ∷ [])))) (sym found)
      ∙ ap Ok (sym (is ∙ (ap (λ s. s ++ (x ∷ map f (take (length values - (place + 1)) (drop (place + 1) values)))) front ∙ ap (λ s. take place xs ++ (x ∷ s)) back)))

  -- a place up to the end
  up_to_end : (number : ℤ) (place : ℕ) → Some place ≡ index_of number → place ≤ length values → place_below number (length xs + 1) ≡ Ok place
  up_to_end number place named within =
      let same : length values ≡ length xs = long in
      let test : nat_lt place (length xs + 1) ≡ true = grind arith in
      ap (below (length xs + 1)) (sym named) ∙ ap (λ b. if b then Ok place else Err OutOfList) test

  pub inserted_at_is : (number : ℤ) (place : ℕ) (x : X) (all : List X) → Some place ≡ index_of number → place ≤ length values →
      all ≡ map f (take place values) ++ (x ∷ map f (take (length values - place) (drop place values))) →
      inserted_at number xs (x ∷ []) ≡ Ok all
  inserted_at_is number place x all named within is =
      let front = front_is place in
      let back = back_is place in
      ap (λ o. and_then o (λ p. Ok (splice xs p p (x ∷ [])))) (up_to_end number place named within)
      ∙ ap Ok (sym (is ∙ (ap (λ s. s ++ (x ∷ map f (take (length values - place) (drop place values)))) front ∙ ap (λ s. take place xs ++ (x ∷ s)) back)))

  pub part_of_is : (first second : ℤ) (from to : ℕ) (all : List X) → Some from ≡ index_of first → Some to ≡ index_of second → from ≤ to → to ≤ length values →
      all ≡ map f (take (to - from) (drop from values)) → part_of first second xs ≡ Ok all
  part_of_is first second from to all named_first named_second ordered within is =
      let same : length values ≡ length xs = long in
      let test : (nat_le from to && nat_le to (length xs)) ≡ true = grind arith in
      let cut : all ≡ take (to - from) (drop from xs) = is ∙ (sym (take-map f (to - from) (drop from values)) ∙ ap (take (to - from)) (rest_is from)) in
      ap (λ o. between o (index_of second) xs) (sym named_first)
      ∙ (ap (λ o. between (Some from) o xs) (sym named_second)
      ∙ (ap (λ b. if b then Ok (take (to - from) (drop from xs)) else Err OutOfList) test ∙ ap Ok (sym cut)))

pub without_last_is : {A X : Type 0} (f : A → X) (values : List A) (xs : List X) (all : List X) → map f values ≡ xs → 1 ≤ length values →
    all ≡ map f (take (length values - 1) values) → without_last xs ≡ Ok all
without_last_is f [] xs all seen some is = absurd (omega arith)
without_last_is f (value ∷ values) xs all seen some is =
    ap without_last (sym seen)
    ∙ ap Ok (ap (λ n. take n (f value ∷ map f values)) (length-map values f ∙ sym (less (length values))) ∙ (take-map f (suc (length values) - 1) (value ∷ values) ∙ sym is))
  where
    less : (n : ℕ) → suc n - 1 ≡ n
    less n = omega arith
