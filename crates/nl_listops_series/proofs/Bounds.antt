-- Least and greatest numbers of a list, and the mean between them.
use Rattle.std.proofs.Common.{◌≡◌, ℕ, zero, suc, ◌+◌, ◌*◌, ◌<◌, ◌≤◌, ℤ, pos, negsuc, ◌+ℤ◌, ◌*ℤ◌, Bool, true, false, ◌⊎◌, inl, inr, fold, Some, Ok, Err, Result, List, [], ◌∷◌, length, slice_get, refl, sym, ap, subst, ◌∙◌, arith, if◌then◌else◌}
use Rattle.std.specs.Prelude.{◌≤ℤ◌, ◌<ℤ◌, int_lt}
use Rattle.std.proofs.lemmas.Int.{ints, by_lt_z}
use Rattle.std.proofs.Math.Nat.{mul-le-mul_left, mul-add}
use borrow.Author.Differences.{up, down}
use Rattle.nl_fixed.specs.declared.number.NumFault.{NumFault}
use Rattle.nl_fixed.specs.declared.number.NumFault.TheVariants.{Overflow}
use Rattle.nl_fixed.specs.Numbers.{one, in_range, as_number, and_next, sum_of, quotient_of, number_of_integer, rounded_quotient}
use Rattle.nl_fixed.specs.NumberLaws.{IsNearest, RoundedIsNearest}
use Rattle.nl_listops_series.specs.Outcomes.{ListOutcome, and_then, numbered}
use Rattle.nl_listops_series.specs.Lists.{counted}
use Rattle.nl_listops_series.specs.Statistics.{lesser, larger, sum_from, total_of, divided_among, mean_of}
use Rattle.nl_listops_series.specs.StatisticLaws.{IsLeast, IsGreatest, MinIsLeast, MaxIsGreatest, MeanLiesBetween}

-- ---- one number picked of two, along a list

picked : (pick : ℤ → ℤ → ℤ) → ((a b : ℤ) → (pick a b ≡ a) ⊎ (pick a b ≡ b)) → (n : ℤ) (ns : List ℤ) →
    (place : ℕ) × (slice_get (n ∷ ns) place ≡ Some (fold pick n ns))
picked pick one_of n [] = (0, refl)
picked pick one_of n (m ∷ ns) = by (picked pick one_of (pick n m) ns) (one_of n m)
  where
    by : (place : ℕ) × (slice_get (pick n m ∷ ns) place ≡ Some (fold pick (pick n m) ns)) → (pick n m ≡ n) ⊎ (pick n m ≡ m) →
        (place : ℕ) × (slice_get (n ∷ m ∷ ns) place ≡ Some (fold pick (pick n m) ns))
    by (zero, is) (inl first) = (0, ap Some (sym first) ∙ is)
    by (zero, is) (inr second) = (1, ap Some (sym second) ∙ is)
    by (suc place, is) either = (suc (suc place), is)

bounded : (R : ℤ → ℤ → Type 0) (pick : ℤ → ℤ → ℤ) → ((a : ℤ) → R a a) → ((a b c : ℤ) → R a b → R b c → R a c) →
    ((a b : ℤ) → R (pick a b) a) → ((a b : ℤ) → R (pick a b) b) → (n : ℤ) (ns : List ℤ) (k : ℕ) (m : ℤ) → slice_get (n ∷ ns) k ≡ Some m → R (fold pick n ns) m
bounded R pick same chain left right n [] zero m at = let is : n ≡ m = cc in rw (← is) (same n)
bounded R pick same chain left right n [] (suc k) m at = cc
bounded R pick same chain left right n (x ∷ ns) zero m at =
    let is : n ≡ m = cc in
    rw (← is) (chain (fold pick (pick n x) ns) (pick n x) n (bounded R pick same chain left right (pick n x) ns 0 (pick n x) refl) (left n x))
bounded R pick same chain left right n (x ∷ ns) (suc zero) m at =
    let is : x ≡ m = cc in
    rw (← is) (chain (fold pick (pick n x) ns) (pick n x) x (bounded R pick same chain left right (pick n x) ns 0 (pick n x) refl) (right n x))
bounded R pick same chain left right n (x ∷ ns) (suc (suc k)) m at = bounded R pick same chain left right (pick n x) ns (suc k) m at

-- ---- the lesser and the larger of two

abbrev at_most : ℤ → ℤ → Type 0
at_most a b = a ≤ℤ b

abbrev at_least : ℤ → ℤ → Type 0
at_least a b = b ≤ℤ a

lesser_told : (a b : ℤ) → ((lesser a b ≡ a) × (a ≤ℤ b)) ⊎ ((lesser a b ≡ b) × (b ≤ℤ a))
lesser_told a b =
    by_lt_z b a
    (λ (below : b <ℤ a). inr (let test : int_lt b a ≡ true = grind (arith, ints) in (ap (λ t. if t then b else a) test, omega (arith, ints, below))))
    (λ (above : a ≤ℤ b). inl (let test : int_lt b a ≡ false = grind (arith, ints) in (ap (λ t. if t then b else a) test, above)))

larger_told : (a b : ℤ) → ((larger a b ≡ a) × (b ≤ℤ a)) ⊎ ((larger a b ≡ b) × (a ≤ℤ b))
larger_told a b =
    by_lt_z a b
    (λ (below : a <ℤ b). inr (let test : int_lt a b ≡ true = grind (arith, ints) in (ap (λ t. if t then b else a) test, omega (arith, ints, below))))
    (λ (above : b ≤ℤ a). inl (let test : int_lt a b ≡ false = grind (arith, ints) in (ap (λ t. if t then b else a) test, above)))

same_at_most : (a b : ℤ) → a ≡ b → a ≤ℤ b
same_at_most a b is = omega (arith, ints, is)

chained : (a b c : ℤ) → a ≤ℤ b → b ≤ℤ c → a ≤ℤ c
chained a b c first second = omega (arith, ints, first, second)

one_of_lesser : (a b : ℤ) → (lesser a b ≡ a) ⊎ (lesser a b ≡ b)
one_of_lesser a b = by (lesser_told a b)
  where
    by : ((lesser a b ≡ a) × (a ≤ℤ b)) ⊎ ((lesser a b ≡ b) × (b ≤ℤ a)) → (lesser a b ≡ a) ⊎ (lesser a b ≡ b)
    by (inl (is, low)) = inl is
    by (inr (is, low)) = inr is

one_of_larger : (a b : ℤ) → (larger a b ≡ a) ⊎ (larger a b ≡ b)
one_of_larger a b = by (larger_told a b)
  where
    by : ((larger a b ≡ a) × (b ≤ℤ a)) ⊎ ((larger a b ≡ b) × (a ≤ℤ b)) → (larger a b ≡ a) ⊎ (larger a b ≡ b)
    by (inl (is, high)) = inl is
    by (inr (is, high)) = inr is

lesser_bound : (a b : ℤ) → (lesser a b ≤ℤ a) × (lesser a b ≤ℤ b)
lesser_bound a b = by (lesser_told a b)
  where
    by : ((lesser a b ≡ a) × (a ≤ℤ b)) ⊎ ((lesser a b ≡ b) × (b ≤ℤ a)) → (lesser a b ≤ℤ a) × (lesser a b ≤ℤ b)
    by (inl (is, low)) = (same_at_most (lesser a b) a is, chained (lesser a b) a b (same_at_most (lesser a b) a is) low)
    by (inr (is, low)) = (chained (lesser a b) b a (same_at_most (lesser a b) b is) low, same_at_most (lesser a b) b is)

larger_bound : (a b : ℤ) → (a ≤ℤ larger a b) × (b ≤ℤ larger a b)
larger_bound a b = by (larger_told a b)
  where
    by : ((larger a b ≡ a) × (b ≤ℤ a)) ⊎ ((larger a b ≡ b) × (a ≤ℤ b)) → (a ≤ℤ larger a b) × (b ≤ℤ larger a b)
    by (inl (is, high)) = (same_at_most a (larger a b) (sym is), chained b a (larger a b) high (same_at_most a (larger a b) (sym is)))
    by (inr (is, high)) = (chained a b (larger a b) high (same_at_most b (larger a b) (sym is)), same_at_most b (larger a b) (sym is))

pub min_is_least : MinIsLeast
min_is_least [] least is = cc
min_is_least (n ∷ ns) least is =
    let same : fold lesser n ns ≡ least = cc in
    let member = picked lesser one_of_lesser n ns in
    record {
      place = member.0;
      member = member.1 ∙ ap Some same;
      bound = λ k m at. rw (← same) (bounded at_most lesser (λ a. same_at_most a a refl) chained (λ a b. (lesser_bound a b).0) (λ a b. (lesser_bound a b).1) n ns k m at);
    }

pub max_is_greatest : MaxIsGreatest
max_is_greatest [] greatest is = cc
max_is_greatest (n ∷ ns) greatest is =
    let same : fold larger n ns ≡ greatest = cc in
    let member = picked larger one_of_larger n ns in
    record {
      place = member.0;
      member = member.1 ∙ ap Some same;
      bound = λ k m at. rw (← same) (bounded at_least larger (λ a. same_at_most a a refl) (λ a b c first second. chained c b a second first) (λ a b. (larger_bound a b).0) (λ a b. (larger_bound a b).1) n ns k m at);
    }

-- ---- sums against the bounds

times_more : (k : ℕ) (z : ℤ) → pos (suc k) *ℤ z ≡ z +ℤ (pos k *ℤ z)
times_more k (pos n) = omega (arith, ints)
times_more k (negsuc n) = omega (arith, ints)

number_told : (count number : ℤ) → as_number count ≡ Ok number → number ≡ count
unfolding as_number
number_told count number is = by (in_range count) is
  where
    by : (b : Bool) → (if b then Ok count else Err Overflow) ≡ Ok number → number ≡ count
    by true given = let same : count ≡ number = cc in sym same
    by false given = cc

sum_told : (a b number : ℤ) → sum_of a b ≡ Ok number → number ≡ a +ℤ b
unfolding sum_of
sum_told a b number is = number_told (a +ℤ b) number is

sum_at_least : (low total : ℤ) (ns : List ℤ) (t : ℤ) → ((k : ℕ) (n : ℤ) → slice_get ns k ≡ Some n → low ≤ℤ n) → sum_from total ns ≡ Ok t →
    (total +ℤ (pos (length ns) *ℤ low)) ≤ℤ t
sum_at_least low total [] t bound is = let same : total ≡ t = cc in first low total t same
  where
    first : (low total t : ℤ) → total ≡ t → (total +ℤ (pos 0 *ℤ low)) ≤ℤ t
    first (pos n) total t same = omega (arith, ints, same)
    first (negsuc n) total t same = omega (arith, ints, same)
sum_at_least low total (n ∷ ns) t bound is = by (sum_of total n) refl is (λ next rest. sum_at_least low next ns t (λ k m at. bound (suc k) m at) rest)
  where
    by : (r : Result ℤ NumFault) → sum_of total n ≡ r → and_next r (λ next. sum_from next ns) ≡ Ok t →
        ((next : ℤ) → sum_from next ns ≡ Ok t → (next +ℤ (pos (length ns) *ℤ low)) ≤ℤ t) → (total +ℤ (pos (suc (length ns)) *ℤ low)) ≤ℤ t
    by (Ok next) told given rest = omega (arith, ints, rest next given, sum_told total n next told, times_more (length ns) low, bound 0 n refl)
    by (Err fault) told given rest = cc

sum_at_most : (high total : ℤ) (ns : List ℤ) (t : ℤ) → ((k : ℕ) (n : ℤ) → slice_get ns k ≡ Some n → n ≤ℤ high) → sum_from total ns ≡ Ok t →
    t ≤ℤ (total +ℤ (pos (length ns) *ℤ high))
sum_at_most high total [] t bound is = let same : total ≡ t = cc in first high total t same
  where
    first : (high total t : ℤ) → total ≡ t → t ≤ℤ (total +ℤ (pos 0 *ℤ high))
    first (pos n) total t same = omega (arith, ints, same)
    first (negsuc n) total t same = omega (arith, ints, same)
sum_at_most high total (n ∷ ns) t bound is = by (sum_of total n) refl is (λ next rest. sum_at_most high next ns t (λ k m at. bound (suc k) m at) rest)
  where
    by : (r : Result ℤ NumFault) → sum_of total n ≡ r → and_next r (λ next. sum_from next ns) ≡ Ok t →
        ((next : ℤ) → sum_from next ns ≡ Ok t → t ≤ℤ (next +ℤ (pos (length ns) *ℤ high))) → t ≤ℤ (total +ℤ (pos (suc (length ns)) *ℤ high))
    by (Ok next) told given rest = omega (arith, ints, rest next given, sum_told total n next told, times_more (length ns) high, bound 0 n refl)
    by (Err fault) told given rest = cc

-- ---- what is nearest to a quotient

times_above : (q : ℕ) (a b : ℤ) → a <ℤ b → ((pos q *ℤ a) +ℤ pos q) ≤ℤ (pos q *ℤ b)
times_above q a b h =
    let apart : up a + down b + 1 ≤ up b + down a = omega (arith, ints) in
    let wide : q * (up a + down b + 1) ≤ q * (up b + down a) = mul-le-mul_left q apart in
    omega (arith, ints, wide, mul-add q (up a + down b) 1, mul-add q (up a) (down b), mul-add q (up b) (down a))

nearest_at_least : (low p mean : ℤ) (q : ℕ) → 0 < q → IsNearest p q mean → (pos (2 * q) *ℤ low) ≤ℤ (pos 2 *ℤ p) → low ≤ℤ mean
nearest_at_least low p mean q some near above =
    by_lt_z mean low
    (λ (below : mean <ℤ low). absurd (let far = times_above (2 * q) mean low below in let last = near.low in omega (arith, ints, far, last, above, some)))
    (λ (fine : low ≤ℤ mean). fine)

nearest_at_most : (high p mean : ℤ) (q : ℕ) → 0 < q → IsNearest p q mean → (pos 2 *ℤ p) ≤ℤ (pos (2 * q) *ℤ high) → mean ≤ℤ high
nearest_at_most high p mean q some near below =
    by_lt_z high mean
    (λ (above : high <ℤ mean). absurd (let far = times_above (2 * q) high mean above in let last = near.high in omega (arith, ints, far, last, below, some)))
    (λ (fine : mean ≤ℤ high). fine)

scaled_at_most : (n : ℕ) (low t : ℤ) → (pos n *ℤ low) ≤ℤ t → (pos (2 * (n * one)) *ℤ low) ≤ℤ (pos 2 *ℤ (t *ℤ pos one))
scaled_at_most n (pos l) t h = omega (arith, ints, h)
scaled_at_most n (negsuc l) t h = omega (arith, ints, h)

scaled_at_least : (n : ℕ) (high t : ℤ) → t ≤ℤ (pos n *ℤ high) → (pos 2 *ℤ (t *ℤ pos one)) ≤ℤ (pos (2 * (n * one)) *ℤ high)
scaled_at_least n (pos l) t h = omega (arith, ints, h)
scaled_at_least n (negsuc l) t h = omega (arith, ints, h)

-- ---- the mean

then_told : (o : ListOutcome ℤ) (f : ℤ → ListOutcome ℤ) (v : ℤ) → and_then o f ≡ Ok v → (x : ℤ) × (o ≡ Ok x) × (f x ≡ Ok v)
then_told (Ok x) f v is = (x, refl, is)
then_told (Err fail) f v is = cc

numbered_told : (r : Result ℤ NumFault) (v : ℤ) → numbered r ≡ Ok v → r ≡ Ok v
numbered_told (Ok x) v is = let same : x ≡ v = cc in ap Ok same
numbered_told (Err fault) v is = cc

quotient_told : (a c m : ℤ) (q : ℕ) → 0 < q → c ≡ pos q → quotient_of a c ≡ Ok m → m ≡ rounded_quotient (a *ℤ pos one) q
unfolding quotient_of
quotient_told a c m zero some is e = absurd (omega arith)
quotient_told a c m (suc b) some is e = number_told (rounded_quotient (a *ℤ pos one) (suc b)) m (ap (quotient_of a) (sym is) ∙ e)

divided_told : (t m : ℤ) (n : ℕ) → 0 < n * one → divided_among t n ≡ Ok m → m ≡ rounded_quotient (t *ℤ pos one) (n * one)
divided_told t m n some is =
    let parts = then_told (counted n) (λ count. numbered (quotient_of t count)) m is in
    let count : parts.0 ≡ pos n *ℤ pos one = number_told (pos n *ℤ pos one) parts.0 (numbered_told (number_of_integer (pos n)) parts.0 parts.1) in
    quotient_told t parts.0 m (n * one) some count (numbered_told (quotient_of t parts.0) m parts.2)

mean_between : RoundedIsNearest → (n : ℤ) (ns : List ℤ) (low mean high : ℤ) → IsLeast (n ∷ ns) low → mean_of (n ∷ ns) ≡ Ok mean → IsGreatest (n ∷ ns) high → (low ≤ℤ mean) × (mean ≤ℤ high)
mean_between nearest n ns low mean high least is greatest =
    let parts = then_told (total_of (n ∷ ns)) (λ total. divided_among total (length (n ∷ ns))) mean is in
    let t = parts.0 in
    let summed : sum_from (pos 0) (n ∷ ns) ≡ Ok t = numbered_told (sum_from (pos 0) (n ∷ ns)) t parts.1 in
    let some : 0 < length (n ∷ ns) * one = omega arith in
    let quotient : mean ≡ rounded_quotient (t *ℤ pos one) (length (n ∷ ns) * one) = divided_told t mean (length (n ∷ ns)) some parts.2 in
    let near : IsNearest (t *ℤ pos one) (length (n ∷ ns) * one) mean = subst (IsNearest (t *ℤ pos one) (length (n ∷ ns) * one)) (sym quotient) (nearest (t *ℤ pos one) (length (n ∷ ns) * one) some) in
    let from_low = sum_at_least low (pos 0) (n ∷ ns) t least.bound summed in
    let to_high = sum_at_most high (pos 0) (n ∷ ns) t greatest.bound summed in
    let low_sum : (pos (length (n ∷ ns)) *ℤ low) ≤ℤ t = omega (arith, ints, from_low) in
    let high_sum : t ≤ℤ (pos (length (n ∷ ns)) *ℤ high) = omega (arith, ints, to_high) in (
      nearest_at_least low (t *ℤ pos one) mean (length (n ∷ ns) * one) some near (scaled_at_most (length (n ∷ ns)) low t low_sum),
      nearest_at_most high (t *ℤ pos one) mean (length (n ∷ ns) * one) some near (scaled_at_least (length (n ∷ ns)) high t high_sum),
    )

pub mean_lies_between : RoundedIsNearest → MeanLiesBetween
mean_lies_between nearest [] least mean greatest low is high = cc
mean_lies_between nearest (n ∷ ns) least mean greatest low is high =
    mean_between nearest n ns least mean greatest (min_is_least (n ∷ ns) least low) is (max_is_greatest (n ∷ ns) greatest high)
