-- Numbers in a row.
use Rattle.std.proofs.Common.{◌≡◌, ◌≢◌, ℕ, zero, suc, ◌+◌, ◌-◌, ◌*◌, ◌/◌, ◌<◌, ◌≤◌, ℤ, pos, negsuc, ◌+ℤ◌, ◌-ℤ◌, ◌*ℤ◌, ◌<ℤ◌, ◌≤ℤ◌, Bool, true, false, ◌&&◌, nat_le, Some, Ok, Err, List, [], ◌∷◌, ◌++◌, length, map, refl, sym, ap, subst, ◌∙◌, arith, if◌then◌else◌}
use Rattle.std.specs.List.{range_with_len}
use Rattle.std.proofs.lemmas.Int.{ints}
use Rattle.std.proofs.lemmas.List.{map-append}
use Rattle.std.specs.List.{slice_get}
use Rattle.std.proofs.lemmas.List.FromFn.{get_or-map-range_with_len, length-map-range_with_len}
use Rattle.std.proofs.lemmas.Option.{slice_get-get_or}
use Rattle.std.proofs.Math.Nat.{div-add-mod', lt-div-mul-add, mul-le-mul_left, mul-le-mul_right}
use Rattle.nl_fixed.specs.Numbers.{IsInRange}
use Rattle.nl_value.specs.Plain.{PlainNumber, plains}
use Rattle.nl_value.specs.Measures.{sizes_of, deepest_of}
use Rattle.nl_listops_series.specs.declared.fail.ListFail.TheVariants.{TooLarge}
use Rattle.nl_listops_series.specs.Outcomes.{kept_within, limited, outcome_map}
use Rattle.nl_listops_series.specs.Laws.{IsRange, RangesEndAtTheBound}
use Rattle.nl_listops_series.specs.Ranges.{steps_within, range_length, numbers_from, number_list, range_by}

-- ---- one number more

range_more : (a n : ℕ) → range_with_len a (n + 1) ≡ range_with_len a n ++ (a + n) ∷ []
range_more a zero = ap (λ k. k ∷ []) (omega arith)
range_more a (suc n) =
    ap (range_with_len a) (next n)
    ∙ (ap (λ rest. a ∷ rest) (range_more (a + 1) n) ∙ ap (λ k. a ∷ (range_with_len (a + 1) n ++ k ∷ [])) (omega arith))
  where
    next : (k : ℕ) → suc k + 1 ≡ suc (k + 1)
    next k = omega arith

pub numbers_more : (start step : ℤ) (n : ℕ) →
    map PlainNumber (numbers_from start step (n + 1)) ≡ map PlainNumber (numbers_from start step n) ++ PlainNumber (start +ℤ (pos n *ℤ step)) ∷ []
numbers_more start step n =
    ap (λ ks. map PlainNumber (map (λ k. start +ℤ (pos k *ℤ step)) ks)) (range_more 0 n ∙ ap (λ k. range_with_len 0 n ++ k ∷ []) (omega arith))
    ∙ (ap (map PlainNumber) (map-append (λ k. start +ℤ (pos k *ℤ step)) (range_with_len 0 n) (n ∷ []))
    ∙ map-append PlainNumber (numbers_from start step n) ((start +ℤ (pos n *ℤ step)) ∷ []))

pub first_number : (start step : ℤ) → start ≡ start +ℤ (pos 0 *ℤ step)
first_number start (pos step) = omega (arith, ints)
first_number start (negsuc step) = omega (arith, ints)

pub next_number : (start step : ℤ) (k : ℕ) → start +ℤ (pos (k + 1) *ℤ step) ≡ (start +ℤ (pos k *ℤ step)) +ℤ step
next_number start (pos step) k = omega (arith, ints)
next_number start (negsuc step) k = omega (arith, ints)

-- ---- each number lies between the start and the bound

within : (distance : ℤ) (size k : ℕ) → 0 < size → k < steps_within distance size → pos (k * size) <ℤ distance
within (pos distance) size k some h =
    let whole = div-add-mod' (distance + (size - 1)) size in
    let least : size * (k + 1) ≤ size * ((distance + (size - 1)) / size) = mul-le-mul_left size (omega arith) in
    omega (arith, ints)
within (negsuc distance) size k some h = absurd (omega arith)

pub number_in_range : (start bound step : ℤ) → IsInRange start → IsInRange bound → step ≢ pos 0 → (k : ℕ) → k < range_length start bound step → IsInRange (start +ℤ (pos k *ℤ step))
number_in_range start bound (pos zero) in_start in_bound some k h = absurd (some refl)
number_in_range start bound (pos (suc step)) in_start in_bound some k h =
    let before = within (bound -ℤ start) (suc step) k (omega arith) h in
    record { low = omega (arith, ints); high = omega (arith, ints) }
number_in_range start bound (negsuc step) in_start in_bound some k h =
    let before = within (start -ℤ bound) (suc step) k (omega arith) h in
    record { low = omega (arith, ints); high = omega (arith, ints) }

-- ---- the limit

sizes : (ns : List ℤ) → sizes_of (plains (map PlainNumber ns)) ≡ length ns
sizes [] = refl
sizes (n ∷ ns) = let rest = sizes ns in omega arith

depths : (ns : List ℤ) → deepest_of (plains (map PlainNumber ns)) ≤ 1
depths [] = omega arith
depths (n ∷ ns) = let rest = depths ns in omega arith

size_test : (ns : List ℤ) (b : Bool) → nat_le (1 + length ns) 1000000 ≡ b → nat_le (1 + sizes_of (plains (map PlainNumber ns))) 1000000 ≡ b
size_test ns b is = ap (λ n. nat_le (1 + n) 1000000) (sizes ns) ∙ is

pub few_numbers : (ns : List ℤ) → length ns < 1000000 → kept_within (number_list ns) ≡ Ok (number_list ns)
few_numbers ns few =
    let long : nat_le (1 + length ns) 1000000 ≡ true = grind arith in
    let flat = depths ns in
    let deep : nat_le (1 + deepest_of (plains (map PlainNumber ns))) 200 ≡ true = grind arith in
    ap (λ b. if b && nat_le (1 + deepest_of (plains (map PlainNumber ns))) 200 then Ok (number_list ns) else Err TooLarge) (size_test ns true long)
    ∙ ap (λ b. if b then Ok (number_list ns) else Err TooLarge) deep

pub many_numbers : (ns : List ℤ) → 1000000 ≤ length ns → kept_within (number_list ns) ≡ Err TooLarge
many_numbers ns many =
    let long : nat_le (1 + length ns) 1000000 ≡ false = grind arith in
    ap (λ b. if b && nat_le (1 + deepest_of (plains (map PlainNumber ns))) 200 then Ok (number_list ns) else Err TooLarge) (size_test ns false long)

-- ---- what `range` answers

pub range_by_some : (start bound step : ℤ) → step ≢ pos 0 → range_by start bound step ≡ Ok (numbers_from start step (range_length start bound step))
range_by_some start bound (pos zero) some = absurd (some refl)
range_by_some start bound (pos (suc step)) some = refl
range_by_some start bound (negsuc step) some = refl

long : (start step : ℤ) (n : ℕ) → length (numbers_from start step n) ≡ n
long start step n = length-map-range_with_len (λ k. start +ℤ (pos k *ℤ step)) 0 n

pub range_few : (start bound step : ℤ) → step ≢ pos 0 → range_length start bound step < 1000000 →
    limited (outcome_map number_list (range_by start bound step)) ≡ Ok (number_list (numbers_from start step (range_length start bound step)))
range_few start bound step some few =
    let n = range_length start bound step in
    let size : length (numbers_from start step n) ≡ n = long start step n in
    ap (λ o. limited (outcome_map number_list o)) (range_by_some start bound step some) ∙ few_numbers (numbers_from start step n) (omega arith)

pub range_many : (start bound step : ℤ) → step ≢ pos 0 → 1000000 ≤ range_length start bound step →
    limited (outcome_map number_list (range_by start bound step)) ≡ Err TooLarge
range_many start bound step some many =
    let n = range_length start bound step in
    let size : length (numbers_from start step n) ≡ n = long start step n in
    ap (λ o. limited (outcome_map number_list o)) (range_by_some start bound step some) ∙ many_numbers (numbers_from start step n) (omega arith)

-- ---- where a range ends

so_many : (distance : ℤ) (size k : ℕ) → 0 < size → steps_within distance size ≤ k → distance ≤ℤ pos (k * size)
so_many (pos distance) size k some h =
    let past = lt-div-mul-add {a = distance + (size - 1)} {b = size} some in
    let most : ((distance + (size - 1)) / size) * size ≤ k * size = mul-le-mul_right size h in
    omega (arith, ints)
so_many (negsuc distance) size k some h = omega (arith, ints)

stepped : (start step : ℤ) (n k : ℕ) → k < n → slice_get (numbers_from start step n) k ≡ Some (start +ℤ (pos k *ℤ step))
stepped start step n k h =
    let below : k < length (numbers_from start step n) = subst (λ (m : ℕ). k < m) (sym (long start step n)) h in
    slice_get-get_or (numbers_from start step n) k (pos 0) below
    ∙ ap Some (get_or-map-range_with_len (λ j. start +ℤ (pos j *ℤ step)) 0 n k k (pos 0) h (omega arith))

climbs : (start bound : ℤ) (step : ℕ) → let n = range_length start bound (pos (suc step)) in IsRange start bound (pos (suc step)) (numbers_from start (pos (suc step)) n)
climbs start bound step =
    let n = range_length start bound (pos (suc step)) in
    let size : length (numbers_from start (pos (suc step)) n) ≡ n = long start (pos (suc step)) n in
    record {
      steps = λ k h. stepped start (pos (suc step)) n k (subst (λ (m : ℕ). k < m) size h);
      before = λ k h. let below = within (bound -ℤ start) (suc step) k (omega arith) (subst (λ (m : ℕ). k < m) size h) in omega (arith, ints);
      ends = λ more.
          let next : (start +ℤ (pos n *ℤ pos (suc step))) <ℤ bound = subst (λ (k : ℕ). (start +ℤ (pos k *ℤ pos (suc step))) <ℤ bound) size more in
          let last = so_many (bound -ℤ start) (suc step) n (omega arith) (omega arith) in
          absurd (omega (arith, ints));
    }

falls : (start bound : ℤ) (step : ℕ) → let n = range_length start bound (negsuc step) in IsRange start bound (negsuc step) (numbers_from start (negsuc step) n)
falls start bound step =
    let n = range_length start bound (negsuc step) in
    let size : length (numbers_from start (negsuc step) n) ≡ n = long start (negsuc step) n in
    record {
      steps = λ k h. stepped start (negsuc step) n k (subst (λ (m : ℕ). k < m) size h);
      before = λ k h. let below = within (start -ℤ bound) (suc step) k (omega arith) (subst (λ (m : ℕ). k < m) size h) in omega (arith, ints);
      ends = λ more.
          let next : bound <ℤ (start +ℤ (pos n *ℤ negsuc step)) = subst (λ (k : ℕ). bound <ℤ (start +ℤ (pos k *ℤ negsuc step))) size more in
          let last = so_many (start -ℤ bound) (suc step) n (omega arith) (omega arith) in
          absurd (omega (arith, ints));
    }

pub ends_at_bound : RangesEndAtTheBound
ends_at_bound start bound (pos zero) numbers is = cc
ends_at_bound start bound (pos (suc step)) numbers is =
    let same : numbers_from start (pos (suc step)) (range_length start bound (pos (suc step))) ≡ numbers = cc in
    subst (IsRange start bound (pos (suc step))) same (climbs start bound step)
ends_at_bound start bound (negsuc step) numbers is =
    let same : numbers_from start (negsuc step) (range_length start bound (negsuc step)) ≡ numbers = cc in
    subst (IsRange start bound (negsuc step)) same (falls start bound step)
