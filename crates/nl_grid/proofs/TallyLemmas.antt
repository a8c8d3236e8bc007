-- How many numbers of a run pass a test.
use Rattle.std.proofs.Common.{ℕ, zero, suc, ◌+◌, ◌-◌, ◌*◌, ◌/◌, ◌%◌, ◌<◌, ◌≤◌, ◌≡◌, Bool, true, false, not, nat_lt, nat_le, ◌==◌, ◌&&◌, ◌||◌, length, filter, inl, inr, arith, refl, ap, ◌∙◌}
use Rattle.std.specs.List.{range_with_len}
use Rattle.std.proofs.lemmas.Bool.{cases_eq, eq-eqb, ne_eqb, leb-true, ltb-true}
use Rattle.std.proofs.lemmas.Nat.{mul-le, div-mul-add, mod-mul-add}
use Rattle.nl_grid.specs.declared.band.Band.{Band}
use Rattle.nl_grid.specs.inner.Bands.{in_band, in_bands, patches_in, size_of}
use Rattle.nl_grid.proofs.RangeLemmas.{by_test}
use Rattle.nl_grid.proofs.BandLemmas.{and_false_right}
use Rattle.std.proofs.Math.Nat.{mul_comm}

pub one_if : Bool → ℕ
one_if true = 1
one_if false = 0

pub tally : (ℕ → Bool) → ℕ → ℕ → ℕ
tally p a zero = 0
tally p a (suc n) = one_if (p a) + tally p (a + 1) n

pub length_is_tally : (p : ℕ → Bool) (a n : ℕ) → length (filter p (range_with_len a n)) ≡ tally p a n
unfolding tally one_if
length_is_tally p a zero = refl
length_is_tally p a (suc n) =
    let later = length_is_tally p (a + 1) n in
    by_test (p a) (λ passes. rw passes (omega (arith, later))) (λ fails. rw fails (omega (arith, later)))

pub tally_split : (p : ℕ → Bool) (a m n : ℕ) → tally p a (m + n) ≡ tally p a m + tally p (a + m) n
unfolding tally
tally_split p a zero n = let start : a + 0 ≡ a = omega arith in let long : 0 + n ≡ n = omega arith in rw (start, long) (omega arith)
tally_split p a (suc m) n =
    let long : suc m + n ≡ suc (m + n) = omega arith in
    let start : a + 1 + m ≡ a + suc m = omega arith in
    let later = tally_split p (a + 1) m n in
    rw (long, later, start) (omega arith)

-- two tests that agree number by number let as many pass
pub tally_same : (p q : ℕ → Bool) (a b n : ℕ) → ((j : ℕ) → j < n → p (a + j) ≡ q (b + j)) → tally p a n ≡ tally q b n
unfolding tally
tally_same p q a b zero same = refl
tally_same p q a b (suc n) same =
    let first : p a ≡ q b = ap p (omega arith) ∙ same 0 (omega arith) ∙ ap q (omega arith) in
    let later = tally_same p q (a + 1) (b + 1) n (λ j below. ap p (omega arith) ∙ same (j + 1) (omega (arith, below)) ∙ ap q (omega arith)) in
    rw (first, later) refl

pub tally_none : (p : ℕ → Bool) (a n : ℕ) → ((j : ℕ) → a ≤ j → j < a + n → p j ≡ false) → tally p a n ≡ 0
unfolding tally one_if
tally_none p a zero none = refl
tally_none p a (suc n) none =
    let first = none a (omega arith) (omega arith) in
    let later = tally_none p (a + 1) n (λ j start below. none j (omega (arith, start)) (omega (arith, below))) in
    rw (first, later) refl

-- what passes lies from low on and below high
pub tally_between : (p : ℕ → Bool) (a n low high : ℕ) → ((j : ℕ) → a ≤ j → j < a + n → p j ≡ true → (low ≤ j) × (j < high)) → (tally p a n ≤ high - low) × (tally p a n ≤ high - a)
unfolding tally one_if
tally_between p a zero low high between = (omega arith, omega arith)
tally_between p a (suc n) low high between =
    let later = tally_between p (a + 1) n low high (λ j start below. between j (omega (arith, start)) (omega (arith, below))) in
    by_test (p a)
    (λ passes. let here = between a (omega arith) (omega arith) passes in rw passes (omega (arith, later.1, here.0, here.1), omega (arith, later.1, here.0, here.1)))
    (λ fails. rw fails (omega (arith, later.0), omega (arith, later.1)))

pub or_second : (a b : Bool) → a ≡ false → (a || b) ≡ true → b ≡ true
or_second true b fails one = absurd (let wrong = fails in cc)
or_second false b fails one = one

-- what passes one test passes one of two
pub tally_either : (p q r : ℕ → Bool) (a n : ℕ) → ((j : ℕ) → a ≤ j → j < a + n → p j ≡ true → (q j || r j) ≡ true) → tally p a n ≤ tally q a n + tally r a n
unfolding tally one_if
tally_either p q r a zero either = omega arith
tally_either p q r a (suc n) either =
    let later = tally_either p q r (a + 1) n (λ j start below. either j (omega (arith, start)) (omega (arith, below))) in
    by_test (p a)
    (λ passes. let one = either a (omega arith) (omega arith) passes in
    by_test (q a) (λ first. rw (passes, first) (omega (arith, later)))
    (λ fails. let second : r a ≡ true = or_second (q a) (r a) fails one in rw (passes, second, fails) (omega (arith, later))))
    (λ fails. rw fails (omega (arith, later)))

pub and_first : (a b : Bool) → (a && b) ≡ true → a ≡ true
and_first true b both = refl
and_first false b both = both

pub and_second : (a b : Bool) → (a && b) ≡ true → b ≡ true
and_second true b both = both
and_second false b both = absurd (let wrong = both in cc)

and_true : (a : Bool) → (a && true) ≡ a
and_true true = refl
and_true false = refl

row_of_index : (j r w : ℕ) → r * w ≤ j → j < r * w + w → j / w ≡ r
row_of_index j r w start below =
    let apart : j ≡ r * w + (j - r * w) = omega (arith, start) in
    ap (λ n. n / w) apart ∙ div-mul-add r w (j - r * w) (omega (arith, start, below))

-- a stricter test lets no more pass
pub tally_weaker : (p q : ℕ → Bool) (a n : ℕ) → ((j : ℕ) → p j ≡ true → q j ≡ true) → tally p a n ≤ tally q a n
unfolding tally one_if
tally_weaker p q a zero weaker = omega arith
tally_weaker p q a (suc n) weaker =
    let later = tally_weaker p q (a + 1) n weaker in
    by_test (p a)
    (λ passes. let known = weaker a passes in rw (passes, known) (omega (arith, later)))
    (λ fails. rw fails (omega (arith, later)))

-- without one that passes, one less
pub tally_without : (p : ℕ → Bool) (a n x : ℕ) → a ≤ x → x < a + n → p x ≡ true → tally (λ j. p j && not (j == x)) a n + 1 ≤ tally p a n
unfolding tally one_if
tally_without p a zero x start below passes = absurd (omega (arith, start, below))
tally_without p a (suc n) x start below passes =
    let later : (a ≡ x → ⊥) → tally (λ j. p j && not (j == x)) (a + 1) n + 1 ≤ tally p (a + 1) n = λ other. tally_without p (a + 1) n x (omega (arith, start, other)) (omega (arith, below)) passes in
    elim (cases_eq a x) [
      | inl same ↦
          let known = ap p same ∙ passes in
          let test = eq-eqb a x same in
          rw (known, test) (omega (arith, tally_weaker (λ j. p j && not (j == x)) p (a + 1) n (λ j more. and_first (p j) (not (j == x)) more)))
      | inr other ↦
          let test = ne_eqb a x other in
          by_test (p a)
          (λ known. rw (known, test) (omega (arith, later other)))
          (λ fails. rw fails (omega (arith, later other)))
    ]

run_between : (low high j : ℕ) → (nat_le low j && nat_lt j high) ≡ true → (low ≤ j) × (j < high)
run_between low high j one = (leb-true low j (and_first (nat_le low j) (nat_lt j high) one), ltb-true j high (and_second (nat_le low j) (nat_lt j high) one))

pub zero_times : (w : ℕ) → 0 ≡ 0 * w
zero_times w = omega arith

-- the patches of one row
tally_row : (p q : ℕ → Bool) (w r : ℕ) → tally (λ j. p (j % w) && q (j / w)) (r * w) w ≡ one_if (q r) * tally p 0 w
unfolding one_if
tally_row p q w r =
    let passes : ℕ → Bool = λ j. p (j % w) && q (j / w) in
    by_test (q r)
    (λ known.
    let same = tally_same passes p (r * w) 0 w (λ j below.
    let index = mod-mul-add r w j below in
    let line = div-mul-add r w j below in
    let zeroth : 0 + j ≡ j = omega arith in
    rw (index, line, known, zeroth) (and_true (p j))) in
    rw known (omega (arith, same)))
    (λ fails.
    let none = tally_none passes (r * w) w (λ j start below.
    let here = row_of_index j r w start below in
    let row_fails = ap q here ∙ fails in
    and_false_right (p (j % w)) (q (j / w)) row_fails) in
    rw fails (omega (arith, none)))

-- the patches in bands, row by row
pub tally_rows : (p q : ℕ → Bool) (w r h : ℕ) → tally (λ j. p (j % w) && q (j / w)) (r * w) (h * w) ≡ tally q r h * tally p 0 w
unfolding tally one_if
tally_rows p q w r zero = let empty : 0 * w ≡ 0 = omega arith in rw empty (omega arith)
tally_rows p q w r (suc h) =
    let passes : ℕ → Bool = λ j. p (j % w) && q (j / w) in
    let long : suc h * w ≡ w + h * w = omega arith in
    let next : r * w + w ≡ (r + 1) * w = omega arith in
    let split = tally_split passes (r * w) w (h * w) in
    let later = tally_rows p q w (r + 1) h in
    let here = tally_row p q w r in
    ap (tally passes (r * w)) long ∙ split ∙ ap (λ start. tally passes (r * w) w + tally passes start (h * w)) next ∙ omega (arith, here, later)

-- a band has no more indices than its runs
pub tally_band : (band : Band) → tally (in_band band) 0 band.side ≤ size_of band
tally_band band =
    let first : ℕ → Bool = λ j. nat_le band.from j && nat_lt j band.to in
    let second : ℕ → Bool = λ j. nat_le band.again j && nat_lt j band.side in
    omega (
      arith,
      tally_either (in_band band) first second 0 band.side (λ j start below one. one),
      tally_between first 0 band.side band.from band.to (λ j start below one. run_between band.from band.to j one),
      tally_between second 0 band.side band.again band.side (λ j start below one. run_between band.again band.side j one),
    )

-- the patches in bands are no more than the indices of both
pub bands_few : (columns rows : Band) (m : ℕ) → size_of columns ≤ m → size_of rows ≤ m → length (patches_in columns rows) ≤ m * m
bands_few columns rows m narrow low =
    let count = length_is_tally (in_bands columns rows) 0 (columns.side * rows.side) in
    let turned = ap (tally (in_bands columns rows) 0) (mul_comm columns.side rows.side) in
    let product = tally_rows (in_band columns) (in_band rows) columns.side 0 rows.side in
    let start = ap (λ a. tally (in_bands columns rows) a (rows.side * columns.side)) (zero_times columns.side) in
    let all = count ∙ turned ∙ start ∙ product in
    omega (arith, all, mul-le (tally (in_band rows) 0 rows.side) (tally (in_band columns) 0 columns.side) m m (omega (arith, tally_band rows, low)) (omega (arith, tally_band columns, narrow)))
