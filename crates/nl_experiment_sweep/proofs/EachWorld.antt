-- Each run has a world exactly where each value of the bounds gives one.
use Rattle.std.proofs.Common.{◌≡◌, ℕ, zero, suc, ◌+◌, ◌*◌, ◌-◌, ◌/◌, ◌%◌, ◌<◌, ◌≤◌, ◌↔◌, nat_le, ◌==◌, Bool, true, false, ◌&&◌, IsTrue, List, [], ◌∷◌, if◌then◌else◌, IfSome, refl, sym, ap, subst, ◌∙◌, arith}
use Rattle.std.specs.List.{list_all, range_with_len}
use Rattle.std.specs.Str.{bytes_eq}
use Rattle.std.proofs.lemmas.Bool.Decides.{nat_tests}
use Rattle.std.proofs.lemmas.Bool.{false≢true}
use Rattle.std.proofs.lemmas.Int.{ints}
use Rattle.std.proofs.lemmas.Nat.{div-mul-add, div_below, mod_below}
use Rattle.std.proofs.Math.Nat.{mod-eq_of_lt}
use Rattle.nl_fixed.specs.Nouns.{Name}
use Rattle.nl_grid.specs.Geometry.{IsAxis, IsWithinLimits, Plane, plane_of, patches_of}
use Rattle.nl_grid.specs.declared.axis.Axis.{Axis}
use Rattle.nl_experiment_sweep.specs.declared.order.Order.{Order}
use Rattle.nl_experiment_sweep.specs.declared.varied.Vary.{Vary}
use Rattle.nl_experiment_sweep.specs.declared.worlds.World.{World}
use Rattle.nl_experiment_sweep.specs.Varied.{AllHaveValues, count_of, max_pxcor, max_pycor, min_pxcor, min_pycor}
use Rattle.nl_experiment_sweep.specs.Sweep.{IsRun, IsSweep, all_have_worlds, bound_or, combination_of, combinations, is_axis, is_world, most_runs, plane_in, plane_of_run, plane_of_world, runs_of, settings_in, settings_of}
use Rattle.nl_experiment_sweep.specs.inner.Bounds.{EachMinX, IsFew, bound_at, bound_count, choice_among, with_max_x, with_max_y, with_min_x, with_min_y}
use Rattle.nl_experiment_sweep.proofs.Digits.{bound_by_index, combined, index_among, index_among_below, same_name, some_values}
use Rattle.nl_experiment_sweep.proofs.Radix.{first_has, has_some, others_have, some_combination}

-- ---- a test over numbers

pub all_of_range : (p : ℕ → Bool) (a n : ℕ) → ((k : ℕ) → a ≤ k → k < a + n → p k ≡ true) → list_all p (range_with_len a n) ≡ true
all_of_range p a zero each = refl
all_of_range p a (suc n) each = rw (each a (omega arith) (omega arith)) (all_of_range p (a + 1) n (λ k from to. each k (omega (arith, from)) (omega (arith, to))))

and_first : (a b : Bool) → (a && b) ≡ true → a ≡ true
and_first true b h = refl
and_first false b h = h

and_second : (a b : Bool) → (a && b) ≡ true → b ≡ true
and_second true b h = h
and_second false b h = absurd (false≢true h)

pub range_of_all : (p : ℕ → Bool) (a n : ℕ) → list_all p (range_with_len a n) ≡ true → (k : ℕ) → a ≤ k → k < a + n → p k ≡ true
range_of_all p a zero all k from to = absurd (omega (arith, from, to))
range_of_all p a (suc n) all k from to = by (range_of_all p (a + 1) n (and_second (p a) (list_all p (range_with_len (a + 1) n)) all) k) (k == a) refl
  where
    by : (a + 1 ≤ k → k < a + 1 + n → p k ≡ true) → (same : Bool) → (k == a) ≡ same → p k ≡ true
    by rest true is = let here : k ≡ a = grind (arith, nat_tests, is) in ap p here ∙ and_first (p a) (list_all p (range_with_len (a + 1) n)) all
    by rest false is = rest (grind (arith, nat_tests, is)) (omega (arith, to))

-- ---- the test of a world

axis_tested : (axis : Axis) → IsAxis axis → is_axis axis ≡ true
axis_tested axis is = grind (arith, ints, nat_tests, is.low, is.high, is.few)

tested_axis : (axis : Axis) → is_axis axis ≡ true → IsAxis axis
tested_axis axis is = record { low = grind (arith, ints, nat_tests); high = grind (arith, ints, nat_tests); few = grind (arith, ints, nat_tests) }

pub world_tested : (plane : Plane) → IsWithinLimits plane → is_world plane ≡ true
world_tested plane is = rw (axis_tested plane.x is.x, axis_tested plane.y is.y) (grind (arith, nat_tests, is.few))

tested_by : (plane : Plane) (x y few : Bool) → is_axis plane.x ≡ x → is_axis plane.y ≡ y → nat_le (patches_of plane) 262144 ≡ few → (x && y && few) ≡ true → IsWithinLimits plane
tested_by plane true true true is_x is_y is_few h = record { x = tested_axis plane.x is_x; y = tested_axis plane.y is_y; few = grind (arith, nat_tests, is_few) }
tested_by plane true true false is_x is_y is_few h = absurd (false≢true h)
tested_by plane true false few is_x is_y is_few h = absurd (false≢true h)
tested_by plane false y few is_x is_y is_few h = absurd (false≢true h)

pub tested_world : (plane : Plane) → is_world plane ≡ true → IsWithinLimits plane
tested_world plane is = tested_by plane (is_axis plane.x) (is_axis plane.y) (nat_le (patches_of plane) 262144) refl refl refl is

-- ---- runs and their combinations

repeated_place : (c reps combos : ℕ) → c < combos → 0 < reps → c * reps + 1 ≤ reps * combos
repeated_place c reps combos below some = grind arith

single_place : (c reps combos : ℕ) → c < combos → 0 < reps → c + 1 ≤ reps * combos
single_place c reps combos below some = grind arith

pub record RunOf (order : Order) (vs : List Vary) (c : ℕ) : Type 0 where
  pub run : ℕ
  pub is : IsRun order vs run
  pub has : combination_of order vs run ≡ c

-- each combination is that of a run
pub some_run : (order : Order) (vs : List Vary) (c : ℕ) → 0 < order.repetitions → c < combinations vs → RunOf order vs c
some_run order vs c some below = by order.sequential refl
  where
    times : (c * order.repetitions + 1 - 1) / order.repetitions ≡ c
    times = ap (λ n. n / order.repetitions) (omega arith) ∙ div-mul-add c order.repetitions 0 some

    once : (c + 1 - 1) % combinations vs ≡ c
    once = ap (λ n. n % combinations vs) (omega arith) ∙ mod-eq_of_lt below

    by : (sequential : Bool) → order.sequential ≡ sequential → RunOf order vs c
    by true is = record {
      run = c * order.repetitions + 1;
      is = record { from = omega arith; to = repeated_place c order.repetitions (combinations vs) below some };
      has = rw is times;
    }
    by false is = record {
      run = c + 1;
      is = record { from = omega arith; to = single_place c order.repetitions (combinations vs) below some };
      has = rw is once;
    }

pub combination_below : (order : Order) (vs : List Vary) (run : ℕ) → 0 < order.repetitions → 0 < combinations vs → IsRun order vs run → combination_of order vs run < combinations vs
combination_below order vs run some many is = by order.sequential refl
  where
    turned : order.repetitions * combinations vs ≡ combinations vs * order.repetitions
    turned = grind arith

    by : (sequential : Bool) → order.sequential ≡ sequential → combination_of order vs run < combinations vs
    by true is' = rw is' (div_below (run - 1) order.repetitions (combinations vs) some (omega (arith, is.from, is.to, turned)))
    by false is' = rw is' (mod_below (run - 1) (combinations vs) many)

-- ---- the bounds by the indexes of their values

abbrev indexed : ℕ → ℕ → ℕ → ℕ → Name → ℕ
indexed a b c d name =
    if bytes_eq min_pxcor name then a else (if bytes_eq max_pxcor name then b else (if bytes_eq min_pycor name then c else (if bytes_eq max_pycor name then d else 0)))

pick : (vs : List Vary) (first : Name) (i rest : ℕ) (name : Name) → i < bound_count (choice_among first vs) → rest < bound_count (choice_among name vs)
    → (if bytes_eq first name then i else rest) < bound_count (choice_among name vs)
pick vs first i rest name here others = by (bytes_eq first name) refl
  where
    by : (named : Bool) → bytes_eq first name ≡ named → (if named then i else rest) < bound_count (choice_among name vs)
    by true is = subst (λ n. i < bound_count (choice_among n vs)) (same_name first name is) here
    by false is = others

abbrev world_by : World → List Vary → ℕ → ℕ → ℕ → ℕ → World
world_by w vs a b c d =
    with_max_y (with_min_y (with_max_x (with_min_x w (choice_among min_pxcor vs) a) (choice_among max_pxcor vs) b) (choice_among min_pycor vs) c) (choice_among max_pycor vs) d

module _ (w : World) (vs : List Vary) (k a b c d : ℕ)
    (is_a : index_among min_pxcor k vs ≡ a) (is_b : index_among max_pxcor k vs ≡ b) (is_c : index_among min_pycor k vs ≡ c) (is_d : index_among max_pycor k vs ≡ d) where
  pub plane_by : plane_in w (settings_in k vs) ≡ plane_of_world (world_by w vs a b c d)
  plane_by =
      let min_x = bound_by_index w.min_x min_pxcor k vs ∙ ap (bound_at w.min_x (choice_among min_pxcor vs)) is_a in
      let max_x = bound_by_index w.max_x max_pxcor k vs ∙ ap (bound_at w.max_x (choice_among max_pxcor vs)) is_b in
      let min_y = bound_by_index w.min_y min_pycor k vs ∙ ap (bound_at w.min_y (choice_among min_pycor vs)) is_c in
      let max_y = bound_by_index w.max_y max_pycor k vs ∙ ap (bound_at w.max_y (choice_among max_pycor vs)) is_d in
      ap (λ x. plane_of x (bound_or w.max_x max_pxcor (settings_in k vs)) (bound_or w.min_y min_pycor (settings_in k vs)) (bound_or w.max_y max_pycor (settings_in k vs)) w.wrap_x w.wrap_y) min_x
      ∙ ap (λ x. plane_of (bound_at w.min_x (choice_among min_pxcor vs) a) x (bound_or w.min_y min_pycor (settings_in k vs)) (bound_or w.max_y max_pycor (settings_in k vs)) w.wrap_x w.wrap_y) max_x
      ∙ ap (λ x. plane_of (bound_at w.min_x (choice_among min_pxcor vs) a) (bound_at w.max_x (choice_among max_pxcor vs) b) x (bound_or w.max_y max_pycor (settings_in k vs)) w.wrap_x w.wrap_y) min_y
      ∙ ap (λ x. plane_of (bound_at w.min_x (choice_among min_pxcor vs) a) (bound_at w.max_x (choice_among max_pxcor vs) b) (bound_at w.min_y (choice_among min_pycor vs) c) x w.wrap_x w.wrap_y) max_y

abbrev EachBound : World → List Vary → Type 0
EachBound w vs = EachMinX w (choice_among min_pxcor vs) (choice_among max_pxcor vs) (choice_among min_pycor vs) (choice_among max_pycor vs)

module _ (w : World) (order : Order) (vs : List Vary) (sweep : IsSweep order vs) where
  many : 0 < combinations vs
  many = some_combination vs sweep.values

  combination_has : all_have_worlds w order vs ≡ true → (k : ℕ) → k < combinations vs → IsWithinLimits (plane_in w (settings_in k vs))
  unfolding all_have_worlds plane_of_run settings_of
  combination_has all k below =
      let one = some_run order vs k sweep.repeated below in
      let tested = range_of_all (λ run. is_world (plane_in w (settings_in (combination_of order vs run) vs))) 1 (runs_of order vs) all one.run one.is.from (omega (arith, one.is.to)) in
      subst (λ n. IsWithinLimits (plane_in w (settings_in n vs))) one.has (tested_world (plane_in w (settings_in (combination_of order vs one.run) vs)) tested)

  pub each_of_all : all_have_worlds w order vs ≡ true → EachBound w vs
  each_of_all all a in_a b in_b c in_c d in_d =
      let fits : (name : Name) → indexed a b c d name < bound_count (choice_among name vs) =
      λ name. pick vs min_pxcor a _ name in_a (pick vs max_pxcor b _ name in_b (pick vs min_pycor c _ name in_c (pick vs max_pycor d 0 name in_d (some_values name vs sweep.values)))) in
      let one = combined (indexed a b c d) vs sweep.values fits in
      subst IsWithinLimits (plane_by w vs one.combination a b c d (one.indexes min_pxcor) (one.indexes max_pxcor) (one.indexes min_pycor) (one.indexes max_pycor))
      (combination_has all one.combination one.below)

  pub all_of_each : EachBound w vs → all_have_worlds w order vs ≡ true
  unfolding all_have_worlds plane_of_run settings_of
  all_of_each each = all_of_range (λ run. is_world (plane_in w (settings_in (combination_of order vs run) vs))) 1 (runs_of order vs) tested
    where
      tested : (run : ℕ) → 1 ≤ run → run < 1 + runs_of order vs → is_world (plane_in w (settings_in (combination_of order vs run) vs)) ≡ true
      tested run from to =
          let k = combination_of order vs run in
          let has = each (index_among min_pxcor k vs) (index_among_below min_pxcor k vs sweep.values) (index_among max_pxcor k vs) (index_among_below max_pxcor k vs sweep.values)
          (index_among min_pycor k vs) (index_among_below min_pycor k vs sweep.values) (index_among max_pycor k vs) (index_among_below max_pycor k vs sweep.values) in
          world_tested (plane_in w (settings_in k vs))
          (subst IsWithinLimits (sym (plane_by w vs k (index_among min_pxcor k vs) (index_among max_pxcor k vs) (index_among min_pycor k vs) (index_among max_pycor k vs) refl refl refl refl)) has)

same_tests : (a b : Bool) → (a ≡ true → b ≡ true) → (b ≡ true → a ≡ true) → a ≡ b
same_tests true b to from = sym (to refl)
same_tests false true to from = from refl
same_tests false false to from = refl

pub answered : (w : World) (order : Order) (vs : List Vary) (answer : Bool) → IsSweep order vs → IsTrue answer ↔ EachBound w vs → answer ≡ all_have_worlds w order vs
answered w order vs answer sweep says =
    same_tests answer (all_have_worlds w order vs) (λ yes. all_of_each w order vs sweep (says.0 yes)) (λ all. says.1 (each_of_all w order vs sweep all))

-- ---- a bound has no more values than there are runs

few_of : (n m : ℕ) → 0 < m → n ≤ n * m
few_of n m some = grind arith

more_than : (n m : ℕ) → 0 < n → m ≤ n * m
more_than n m some = grind arith

few_by : (v : Vary) (vs : List Vary) → AllHaveValues (v ∷ vs) → combinations (v ∷ vs) ≤ most_runs → IsFew v.choice
few_by v vs all few = (first_has v vs all, omega (arith, few, few_of (count_of v.choice) (combinations vs) (some_combination vs (others_have v vs all))))

few_combinations : (name : Name) (vs : List Vary) → AllHaveValues vs → combinations vs ≤ most_runs → IfSome (choice_among name vs) IsFew
few_combinations name [] all few = tt
few_combinations name (v ∷ vs) all few =
    by (few_combinations name vs (others_have v vs all) (omega (arith, few, more_than (count_of v.choice) (combinations vs) (has_some v.choice (first_has v vs all))))) (bytes_eq v.name name) refl
  where
    by : IfSome (choice_among name vs) IsFew → (named : Bool) → bytes_eq v.name name ≡ named → IfSome (choice_among name (v ∷ vs)) IsFew
    by rest true is = rw is (few_by v vs all few)
    by rest false is = rw is rest

pub few_among : (name : Name) (order : Order) (vs : List Vary) → IsSweep order vs → IfSome (choice_among name vs) IsFew
few_among name order vs sweep = few_combinations name vs sweep.values (omega (arith, sweep.few, more_than order.repetitions (combinations vs) sweep.repeated))
