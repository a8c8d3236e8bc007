-- Runs as places of combinations and repetitions.
use Rattle.std.proofs.Common.{◌≡◌, ℕ, ◌+◌, ◌*◌, ◌-◌, ◌/◌, ◌%◌, ◌<◌, ◌≤◌, Bool, true, false, refl, ap, ◌∙◌, arith}
use Rattle.std.proofs.lemmas.Nat.{div-add-mod', div-mul-add, div_below, mod-mul-add, mod_below, mul-add-lt}
use Rattle.nl_experiment_sweep.specs.Laws.{EachPlaceHasARun, EachRunHasAPlace, HasAPlace, HasARun}
use Rattle.nl_experiment_sweep.specs.Sweep.{combinations}
use Rattle.nl_experiment_sweep.proofs.Radix.{some_combination}

turned : (m n : ℕ) → m * n ≡ n * m
turned m n = grind arith

pub each_run_has_a_place : EachRunHasAPlace
each_run_has_a_place order vs run all some is = by order.sequential refl
  where
    by : (sequential : Bool) → order.sequential ≡ sequential → HasAPlace order vs run
    by true is' = record {
      combination = rw is' (div_below (run - 1) order.repetitions (combinations vs) some (omega (arith, is.from, is.to, turned order.repetitions (combinations vs))));
      repetition = rw is' (mod_below (run - 1) order.repetitions some);
      place = rw is' (omega (arith, is.from, div-add-mod' (run - 1) order.repetitions));
    }
    by false is' = record {
      combination = rw is' (mod_below (run - 1) (combinations vs) (some_combination vs all));
      repetition = rw is' (div_below (run - 1) (combinations vs) order.repetitions (some_combination vs all) (omega (arith, is.from, is.to)));
      place = rw is' (omega (arith, is.from, div-add-mod' (run - 1) (combinations vs)));
    }

place_within : (a b m n : ℕ) → a < m → b < n → a * n + b + 1 ≤ m * n
place_within a b m n below low = omega (arith, mul-add-lt a n b m below low)

pub each_place_has_a_run : EachPlaceHasARun
each_place_has_a_run order vs c r below low = by order.sequential refl
  where
    gone : (n : ℕ) → n + 1 - 1 ≡ n
    gone n = omega arith

    by : (sequential : Bool) → order.sequential ≡ sequential → HasARun order vs c r
    by true is = record {
      run = record { from = omega arith; to = rw is (omega (arith, place_within c r (combinations vs) order.repetitions below low, turned order.repetitions (combinations vs))) };
      combination = rw is (ap (λ n. n / order.repetitions) (gone (c * order.repetitions + r)) ∙ div-mul-add c order.repetitions r low);
      repetition = rw is (ap (λ n. n % order.repetitions) (gone (c * order.repetitions + r)) ∙ mod-mul-add c order.repetitions r low);
    }
    by false is = record {
      run = record { from = omega arith; to = rw is (omega (arith, place_within r c order.repetitions (combinations vs) low below)) };
      combination = rw is (ap (λ n. n % combinations vs) (gone (r * combinations vs + c)) ∙ mod-mul-add r (combinations vs) c below);
      repetition = rw is (ap (λ n. n / combinations vs) (gone (r * combinations vs + c)) ∙ div-mul-add r (combinations vs) c below);
    }
