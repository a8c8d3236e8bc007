-- The settings of a run can be written down, as the values that its experiment varies.
use Rattle.std.proofs.Common.{◌≡◌, ℕ, zero, suc, true, List, [], ◌∷◌, refl}
use Rattle.std.specs.Prelude.{slice_get, unwrap_or}
use Rattle.std.specs.List.{list_all}
use Rattle.std.specs.Cmp.{first_so, second_so}
use Rattle.std.specs.Cmp.Derive.{both_true}
use Rattle.nl_value.specs.Plain.{Plain, PlainNobody}
use Rattle.nl_experiment_sweep.specs.Sweep.{index_of, settings_of, combination_of}
use Rattle.nl_experiment_sweep.specs.Sweep as sweep
use Rattle.nl_experiment_sweep.specs.Varied.{value_of}
use Rattle.nl_experiment_sweep.specs.declared.order.Order.{Order}
use Rattle.nl_experiment_sweep.specs.declared.varied.Choice.{Choice}
use Rattle.nl_experiment_sweep.specs.declared.varied.Choice.TheVariants.{Listed, Stepped}
use Rattle.nl_experiment_sweep.specs.declared.varied.Vary.{Vary}
use Rattle.nl_experiment_fields.specs.Written.{all_written, is_written, is_written_choice}

one_of_all : (values : List Plain) (index : ℕ) → list_all is_written values ≡ true → is_written (unwrap_or (slice_get values index) PlainNobody) ≡ true
one_of_all [] index all = refl
one_of_all (value ∷ values) zero all = first_so (is_written value) (list_all is_written values) all
one_of_all (value ∷ values) (suc index) all = one_of_all values index (second_so (is_written value) (list_all is_written values) all)

value_written : (c : Choice) (index : ℕ) → is_written_choice c ≡ true → is_written (value_of c index) ≡ true
value_written (Listed values) index all = one_of_all values index all
value_written (Stepped from step count) index all = refl

all_in_written : (combination : ℕ) (vs : List Vary) → list_all (λ v. is_written_choice v.choice) vs ≡ true → all_written (sweep.settings_in combination vs) ≡ true
all_in_written combination [] all = refl
all_in_written combination (v ∷ vs) all =
    both_true (value_written v.choice (index_of combination v vs) (first_so (is_written_choice v.choice) (list_all (λ w. is_written_choice w.choice) vs) all))
    (all_in_written combination vs (second_so (is_written_choice v.choice) (list_all (λ w. is_written_choice w.choice) vs) all))

pub settings_are_written : (order : Order) (vs : List Vary) (run : ℕ) → list_all (λ v. is_written_choice v.choice) vs ≡ true
    → all_written (settings_of order vs run) ≡ true
unfolding settings_of
settings_are_written order vs run all = all_in_written (combination_of order vs run) vs all
