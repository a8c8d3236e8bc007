-- What patches give to each other stays among them: each patch gives a share to each of its neighbors, and is a neighbor of those.
use Rattle.std.proofs.Common.{◌≡◌, ℕ, zero, suc, ◌+◌, ◌<◌, ◌≤◌, Bool, true, false, ◌&&◌, not, ◌==◌, if◌then◌else◌, List, [], ◌∷◌, length, map, ℤ, pos, ◌+ℤ◌, ◌-ℤ◌, ◌*ℤ◌, refl, sym, ap, ◌∙◌, subst, arith}
use Rattle.std.specs.List.{filter, range_with_len, Contains}
use Rattle.std.proofs.lemmas.Int.{ints}
use Rattle.std.proofs.lemmas.List.FromFn.{fill_by_all}
use Rattle.nl_grid.specs.Nouns.{Patches}
use Rattle.nl_grid.specs.Geometry.{Plane, patches_of, all_patches, is_near, patches_near, is_in_line, neighbors_of, neighbors4_of}
use Rattle.nl_grid.proofs.FewLemmas.{filter_twice}
use Rattle.nl_grid.proofs.RangeLemmas.{in_filter, from_filter, same_test}
use Rattle.nl_grid.proofs.LawLemmas.{neighbors_mutual, neighbors4_mutual}
use Rattle.nl_motion.specs.Diffusion.{total, count_at, parts_of, one_share, count_after, diffused_field}

-- ---- totals over patches

abbrev over : (ℕ → ℤ) → List ℕ → ℤ
over f xs = total (map f xs)

over_sum : (f g : ℕ → ℤ) (xs : List ℕ) → over (λ x. f x +ℤ g x) xs ≡ over f xs +ℤ over g xs
over_sum f g [] = refl
over_sum f g (x ∷ xs) = let more = over_sum f g xs in omega (arith, ints)

over_less : (f g : ℕ → ℤ) (xs : List ℕ) → over (λ x. f x -ℤ g x) xs ≡ over f xs -ℤ over g xs
over_less f g [] = refl
over_less f g (x ∷ xs) = let more = over_less f g xs in omega (arith, ints)

over_none : (xs : List ℕ) → over (λ x. pos 0) xs ≡ pos 0
over_none [] = refl
over_none (x ∷ xs) = let more = over_none xs in omega (arith, ints)

-- the order of two totals doesn't matter
swapped : (F : ℕ → ℕ → ℤ) (xs ys : List ℕ) → over (λ x. over (F x) ys) xs ≡ over (λ y. over (λ x. F x y) xs) ys
swapped F [] ys = sym (over_none ys)
swapped F (x ∷ xs) ys = ap (λ z. over (F x) ys +ℤ z) (swapped F xs ys) ∙ sym (over_sum (F x) (λ y. over (λ z. F z y) xs) ys)

part_step : (p : Bool) (f : ℕ → ℤ) (x : ℕ) (xs ys : List ℕ) (rest : ℤ) → over f xs ≡ rest
    → over f (if p then x ∷ xs else xs) ≡ (if p then f x else pos 0) +ℤ rest
part_step true f x xs ys rest is = ap (λ z. f x +ℤ z) is
part_step false f x xs ys rest is = omega (arith, ints)

-- a total over those that pass a test
over_part : (p : ℕ → Bool) (f : ℕ → ℤ) (xs : List ℕ) → over f (filter p xs) ≡ over (λ x. if p x then f x else pos 0) xs
over_part p f [] = refl
over_part p f (x ∷ xs) = part_step (p x) f x (filter p xs) xs _ (over_part p f xs)

times_more : (n : ℕ) (c : ℤ) → pos (suc n) *ℤ c ≡ c +ℤ (pos n *ℤ c)
times_more n c = omega (arith, ints)

times_step : (p : Bool) (c : ℤ) (x : ℕ) (xs : List ℕ) (rest : ℤ) → pos (length xs) *ℤ c ≡ rest
    → pos (length (if p then x ∷ xs else xs)) *ℤ c ≡ (if p then c else pos 0) +ℤ rest
times_step true c x xs rest is = times_more (length xs) c ∙ ap (λ z. c +ℤ z) is
times_step false c x xs rest is = omega (arith, ints)

-- as many times one count as pass a test
times_part : (p : ℕ → Bool) (c : ℤ) (xs : List ℕ) → pos (length (filter p xs)) *ℤ c ≡ over (λ x. if p x then c else pos 0) xs
times_part p c [] = omega (arith, ints)
times_part p c (x ∷ xs) = times_step (p x) c x (filter p xs) _ (times_part p c xs)

over_from : (f g : ℕ → ℤ) (a n : ℕ) → ((k : ℕ) → a ≤ k → k < a + n → f k ≡ g k) → over f (range_with_len a n) ≡ over g (range_with_len a n)
over_from f g a zero same = refl
over_from f g a (suc n) same =
    let first = same a (omega arith) (omega arith) in
    let rest = over_from f g (a + 1) n (λ k low high. same k (omega arith) (omega arith)) in
    ap (λ z. z +ℤ over f (range_with_len (a + 1) n)) first ∙ ap (λ z. g a +ℤ z) rest

over_same : (f g : ℕ → ℤ) (n : ℕ) → ((k : ℕ) → k < n → f k ≡ g k) → over f (range_with_len 0 n) ≡ over g (range_with_len 0 n)
over_same f g n same = over_from f g 0 n (λ k low high. same k (omega arith))

-- ---- what is given is what is got

module _ (n : ℕ) (near : ℕ → ℕ → Bool) (ring : ℕ → Patches)
    (is : (p : ℕ) → ring p ≡ filter (near p) (range_with_len 0 n))
    (mutual_ : (p q : ℕ) → p < n → Contains (ring p) q → Contains (ring q) p) where
  abbrev all : Patches
  all = range_with_len 0 n

  back : (p q : ℕ) → p < n → q < n → near p q ≡ true → near q p ≡ true
  back p q p_below q_below t =
      let there : Contains (ring p) q = subst (λ xs. Contains xs q) (sym (is p)) (in_filter (near p) 0 n q (omega arith) (omega arith) t) in
      (from_filter (near q) 0 n p (subst (λ xs. Contains xs p) (is q) (mutual_ p q p_below there))).2

  same_near : (p q : ℕ) → p < n → q < n → near p q ≡ near q p
  same_near p q p_below q_below = same_test (near p q) (near q p) (back p q p_below q_below) (back q p q_below p_below)

  given : (s : ℕ → ℤ) → over (λ p. pos (length (ring p)) *ℤ s p) all ≡ over (λ p. over (λ q. if near p q then s p else pos 0) all) all
  given s = over_same _ _ n (λ p below. ap (λ (xs : Patches). pos (length xs) *ℤ s p) (is p) ∙ times_part (near p) (s p) all)

  got : (s : ℕ → ℤ) → over (λ p. over s (ring p)) all ≡ over (λ p. over (λ q. if near p q then s q else pos 0) all) all
  got s = over_same _ _ n (λ p below. ap (λ (xs : Patches). over s xs) (is p) ∙ over_part (near p) s all)

  turned : (s : ℕ → ℤ) → over (λ q. over (λ p. if near p q then s q else pos 0) all) all ≡ over (λ q. over (λ p. if near q p then s q else pos 0) all) all
  turned s = over_same _ _ n (λ q q_below. over_same _ _ n (λ p p_below. ap (λ b. if b then s q else pos 0) (same_near p q p_below q_below)))

  pub given_is_got : (s : ℕ → ℤ) → over (λ p. pos (length (ring p)) *ℤ s p) all ≡ over (λ p. over s (ring p)) all
  given_is_got s = given s ∙ sym (got s ∙ swapped (λ p q. if near p q then s q else pos 0) all all ∙ turned s)

  pub sum_stays : (s v : ℕ → ℤ) → over (λ p. (v p -ℤ (pos (length (ring p)) *ℤ s p)) +ℤ over s (ring p)) all ≡ over v all
  sum_stays s v =
      let parts = over_sum (λ p. v p -ℤ (pos (length (ring p)) *ℤ s p)) (λ p. over s (ring p)) all in
      let less = over_less v (λ p. pos (length (ring p)) *ℤ s p) all in
      let same = given_is_got s in
      omega (arith, ints)

-- ---- neighbors as tests

near_all : Plane → ℕ → ℕ → Bool
near_all plane p q = is_near plane (pos 1) p q && not (q == p)

near_four : Plane → ℕ → ℕ → Bool
near_four plane p q = near_all plane p q && is_in_line plane p q

tests_all : (plane : Plane) (p : ℕ) → neighbors_of plane p ≡ filter (near_all plane p) (all_patches plane)
unfolding neighbors_of patches_near near_all
tests_all plane p = filter_twice (is_near plane (pos 1) p) (λ q. not (q == p)) (all_patches plane)

tests_four : (plane : Plane) (p : ℕ) → neighbors4_of plane p ≡ filter (near_four plane p) (all_patches plane)
unfolding neighbors4_of near_four
tests_four plane p = ap (filter (is_in_line plane p)) (tests_all plane p) ∙ filter_twice (near_all plane p) (is_in_line plane p) (all_patches plane)

-- ---- the field

whole : (counts : List ℤ) (n : ℕ) → length counts ≡ n → over (count_at counts) (range_with_len 0 n) ≡ total counts
whole counts n many = ap total (sym (fill_by_all (count_at counts) counts n (pos 0) many (λ k below. refl)))

stays_around : (four : Bool) (plane : Plane) (shares field : List ℤ)
    → over (count_after four plane field shares) (all_patches plane) ≡ over (count_at field) (all_patches plane)
unfolding count_after
stays_around true plane shares field =
    sum_stays (patches_of plane) (near_four plane) (neighbors4_of plane) (tests_four plane) (neighbors4_mutual plane) (count_at shares) (count_at field)
stays_around false plane shares field =
    sum_stays (patches_of plane) (near_all plane) (neighbors_of plane) (tests_all plane) (neighbors_mutual plane) (count_at shares) (count_at field)

-- the total of a field stays
pub total_stays : (four : Bool) (plane : Plane) (part : ℤ) (field : List ℤ) → length field ≡ patches_of plane
    → total (diffused_field four plane part field) ≡ total field
total_stays four plane part field many =
    stays_around four plane (map (one_share (parts_of four) part) field) field ∙ whole field (patches_of plane) many
