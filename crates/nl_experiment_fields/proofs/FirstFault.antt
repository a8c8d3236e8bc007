-- The fault of a document is the first one in the order of its keys.
use Rattle.std.proofs.Common.{◌≡◌, List, [], ◌∷◌, map, Option, Result, Ok, Err, refl, ap, ◌∙◌}
use Rattle.toml.specs.Data.{Members}
use Rattle.nl_experiment_keys.specs.Reading.{◌>>=◌, all_known}
use Rattle.nl_experiment_keys.specs.Rows.{maybe_text_at, required_text_at, text_at, texts_at, truth_at, whole_at}
use Rattle.nl_experiment_keys.specs.declared.faults.KeyFault.{KeyFault}
use Rattle.nl_experiment_fields.specs.Entries.{globals_at, vary_at, world_at}
use Rattle.nl_experiment_fields.specs.File.{fields_in}
use Rattle.nl_experiment_fields.specs.Keys.{budget_key, every_step_key, format_key, go_key, known_in, measure_when_key, metrics_key, name_key, repetitions_key, seed_key, sequential_key, setup_key, steps_key, until_key}
use Rattle.nl_experiment_fields.specs.Laws.{FaultsGoByKeys, TheFirstFaultIsTold, fault_in, faults_by_key, first_fault}

-- a step, before the next ones
step : {A B : Type 0} (m : Result A KeyFault) (f : A → Result B KeyFault) (rest : List (Option KeyFault))
    → ((x : A) → fault_in (f x) ≡ first_fault rest) → fault_in (m >>= f) ≡ first_fault (fault_in m ∷ rest)
step (Ok x) f rest next = next x
step (Err fault) f rest next = refl

-- the same for a step of a part
part : {A B C : Type 0} (m : Result A KeyFault) (f : A → Result B KeyFault) (g : B → Result C KeyFault) (rest : List (Option KeyFault))
    → ((x : A) → fault_in (f x >>= g) ≡ first_fault rest) → fault_in ((m >>= f) >>= g) ≡ first_fault (fault_in m ∷ rest)
part (Ok x) f g rest next = next x
part (Err fault) f g rest next = refl

pub keys_in_order : FaultsGoByKeys
keys_in_order document = refl

of_document : (document : Members) → fault_in (fields_in document) ≡ first_fault (fault_in (all_known [] (known_in document) document) ∷ map (λ one. one.1) (faults_by_key document))
of_document document =
    step (all_known [] (known_in document) document) _ _ (λ known.
    part (whole_at [] format_key document) _ _ _ (λ format.
    part (required_text_at name_key document) _ _ _ (λ name.
    part (whole_at [] seed_key document) _ _ _ (λ seed.
    part (whole_at [] repetitions_key document) _ _ _ (λ repetitions.
    part (truth_at [] sequential_key document) _ _ _ (λ sequential.
    part (text_at setup_key document) _ _ _ (λ setup.
    part (text_at go_key document) _ _ _ (λ go.
    part (maybe_text_at until_key document) _ _ _ (λ until.
    part (whole_at [] steps_key document) _ _ _ (λ steps.
    part (truth_at [] every_step_key document) _ _ _ (λ every_step.
    part (maybe_text_at measure_when_key document) _ _ _ (λ measure_when.
    part (whole_at [] budget_key document) _ _ _ (λ budget.
    part (texts_at metrics_key document) _ _ _ (λ metrics.
    step (world_at document) _ _ (λ world.
    step (globals_at document) _ _ (λ globals.
    step (vary_at document) _ [] (λ vary. refl)))))))))))))))))

pub first_is_told : TheFirstFaultIsTold
first_is_told file document is = ap (λ (r : Result Members KeyFault). fault_in (r >>= fields_in)) is ∙ of_document document
