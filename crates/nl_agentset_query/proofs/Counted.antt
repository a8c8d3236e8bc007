-- As many places of a list as are drawn stand among its places, since those that are drawn differ.
use Rattle.std.specs.Prelude.{◌≡◌, ℕ, ◌<◌, ◌≤◌, ◌==◌, ◌||◌, ◌&&◌, nat_lt, Bool, true, List, [], ◌∷◌, take, drop, length, filter, refl}
use Rattle.std.proofs.Common.{ap, sym, ◌∙◌, arith}
use Rattle.std.specs.List.{range_with_len, IsDistinct}
use Rattle.std.specs.List.Sorted.{IsStrictlyIncreasing, IsPermutation}
use Rattle.std.specs.Set.{is_member}
use Rattle.std.proofs.lemmas.Bool.{and_parts, or_left, lt-ltb, ltb-true}
use Rattle.std.proofs.lemmas.Bool.Decides.{Decides-eqb}
use Rattle.std.proofs.lemmas.Cmp.{nat_eq_equiv}
use Rattle.std.proofs.lemmas.List.{get_or-take, length-take, length-take-le, take_all, take-append-drop}
use Rattle.std.proofs.lemmas.List.Folds.{list_any-append}
use Rattle.std.proofs.lemmas.List.FromFn.{length-range_with_len}
use Rattle.std.proofs.lemmas.List.Kept.{AllPairs-from_increasing, IsStrictlyIncreasing-filter}
use Rattle.std.proofs.lemmas.List.Sorted.{length_permutation, list_any-IsPermutation}
use Rattle.std.proofs.lemmas.Map.Keys.{IsDistinct-IsPermutation}
use Rattle.std.proofs.lemmas.Map.Made.{length-le_from_is_member, AllPairs-from_IsDistinct, IsDistinct-from_AllPairs}
use Rattle.nl_draw.specs.Stream.{shuffled}
use Rattle.nl_draw.proofs.Shuffles.{shuffled-permutes}
use Rattle.nl_agents.proofs.Ascending.{range_ascends, has_range, has_filter}
use Rattle.nl_agents.specs.Members.{is_listed}
use Rattle.nl_agentset_query.specs.Choices.{places_drawn}

-- the two tests of a number in a list
abbrev eq : ℕ → ℕ → Bool
eq x y = x == y

listed_is_member : (xs : List ℕ) (z : ℕ) → is_listed xs z ≡ is_member eq xs z
listed_is_member [] z = refl
listed_is_member (x ∷ xs) z = ap (λ b. b || is_listed xs z) (nat_eq_equiv.symm x z) ∙ ap (λ b. eq z x || b) (listed_is_member xs z)

ascending_differ : (xs : List ℕ) → IsStrictlyIncreasing xs → IsDistinct eq xs
ascending_differ xs up =
    IsDistinct-from_AllPairs (λ a b. Decides-eqb a b) xs (λ i j d before inside. λ same. let below = AllPairs-from_increasing xs up i j d before inside in omega (arith, below, same))

-- the first of numbers that differ
first_differ : (k : ℕ) (xs : List ℕ) → IsDistinct eq xs → IsDistinct eq (take k xs)
first_differ k xs differ =
    IsDistinct-from_AllPairs (λ a b. Decides-eqb a b) (take k xs)
    (λ i j d before inside.
    let short : length (take k xs) ≤ k = omega (arith, length-take k xs) in
    let few : length (take k xs) ≤ length xs = omega (arith, length-take k xs) in
    let one = get_or-take k xs i d (omega (arith, before, inside, short)) in
    let two = get_or-take k xs j d (omega (arith, inside, short)) in
    λ same. AllPairs-from_IsDistinct (λ a b. Decides-eqb a b) xs differ i j d before (omega (arith, inside, few)) (sym one ∙ same ∙ two))

module _ (ps : List ℕ) (n : ℕ) where
  abbrev some : List ℕ
  some = filter (is_listed ps) (range_with_len 0 n)

  each_is_one : (z : ℕ) → is_member eq some z ≡ true → is_member eq ps z ≡ true
  each_is_one z h =
      let both = and_parts (is_listed (range_with_len 0 n) z) (is_listed ps z) (sym (has_filter (is_listed ps) (range_with_len 0 n) z) ∙ listed_is_member some z ∙ h) in
      sym (listed_is_member ps z) ∙ both.1

  each_stands : ((z : ℕ) → is_listed ps z ≡ true → z < n) → (z : ℕ) → is_member eq ps z ≡ true → is_member eq some z ≡ true
  each_stands below z h =
      let is = listed_is_member ps z ∙ h in
      sym (listed_is_member some z) ∙ has_filter (is_listed ps) (range_with_len 0 n) z ∙ ap (λ b. b && is_listed ps z) (has_range n z ∙ lt-ltb z n (below z is)) ∙ is

  -- numbers below a bound that differ are as many as stand among all numbers below it
  as_many : IsDistinct eq ps → ((z : ℕ) → is_listed ps z ≡ true → z < n) → length some ≡ length ps
  as_many differ below =
      let up = IsStrictlyIncreasing-filter (is_listed ps) (range_with_len 0 n) (range_ascends 0 n) in
      let fewer = length-le_from_is_member nat_eq_equiv some ps (ascending_differ some up) each_is_one in
      let more = length-le_from_is_member nat_eq_equiv ps some differ (each_stands below) in
      omega (arith, fewer, more)

listed_first : (k : ℕ) (xs : List ℕ) (z : ℕ) → is_listed (take k xs) z ≡ true → is_listed xs z ≡ true
listed_first k xs z h =
    sym (ap (λ l. is_listed l z) (take-append-drop k xs)) ∙ list_any-append (λ y. y == z) (take k xs) (drop k xs) ∙ or_left (is_listed (take k xs) z) (is_listed (drop k xs) z) h

module _ (wanted n state : ℕ) where
  abbrev all : List ℕ
  all = range_with_len 0 n

  abbrev mixed : List ℕ
  mixed = (shuffled all state).0

  moved : IsPermutation all mixed
  moved = shuffled-permutes all state

  mixed_long : length mixed ≡ n
  mixed_long = length_permutation all mixed moved ∙ length-range_with_len 0 n

  mixed_has : (z : ℕ) → is_listed mixed z ≡ nat_lt z n
  mixed_has z = sym (list_any-IsPermutation (λ y. y == z) all mixed moved) ∙ has_range n z

  -- as many places are drawn as are wanted
  pub drawn_many : wanted ≤ n → length (filter (is_listed (places_drawn wanted n state).0) (range_with_len 0 n)) ≡ wanted
  drawn_many few =
      let differ = IsDistinct-IsPermutation eq nat_eq_equiv.symm all mixed moved (ascending_differ all (range_ascends 0 n)) in
      as_many (take wanted mixed) n (first_differ wanted mixed differ) (λ z h. ltb-true z n (sym (mixed_has z) ∙ listed_first wanted mixed z h))
      ∙ length-take-le wanted mixed (omega (arith, few, mixed_long))

  -- and all where there are no more
  pub all_drawn : n ≤ wanted → (k : ℕ) → k < n → is_listed (places_drawn wanted n state).0 k ≡ true
  all_drawn many k inside =
      ap (λ l. is_listed l k) (take_all wanted mixed (omega (arith, many, mixed_long))) ∙ mixed_has k ∙ lt-ltb k n inside
