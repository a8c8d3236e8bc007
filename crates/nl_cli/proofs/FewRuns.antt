-- An experiment that was read has not too many runs.
use Rattle.std.proofs.Common.{◌≡◌, ◌≤◌, Bool, true, false, Result, Ok, Err, refl, subst, arith}
use Rattle.std.specs.Prelude.{nat_le}
use Rattle.std.proofs.lemmas.Bool.Decides.{nat_tests}
use Rattle.nl_fixed.specs.Nouns.{Bytes}
use Rattle.nl_experiment_sweep.specs.Sweep.{all_have_worlds, most_runs, runs_of}
use Rattle.nl_experiment_keys.specs.Reading.{◌>>=◌, fault_at, only_if}
use Rattle.nl_experiment_keys.specs.declared.faults.KeyFault.{KeyFault}
use Rattle.nl_experiment_keys.specs.declared.faults.PlanKind.TheVariants.{BadWorld, TooManyRuns}
use Rattle.nl_experiment_fields.specs.File.{file_says}
use Rattle.nl_experiment_fields.specs.Keys.{vary_key, world_key}
use Rattle.nl_experiment_fields.specs.declared.fields.Fields.{Fields}
use Rattle.nl_experiment.specs.Plan.{experiment_says, judged, order_of, world_of}

few_by : (p q : Bool) (d e : KeyFault) (f g : Fields) → (only_if p d >>= λ few. only_if q e >>= λ worlds. Ok f) ≡ Ok g → (p ≡ true) × (f ≡ g)
few_by true true d e f g h = (refl, cc)
few_by true false d e f g h = cc
few_by false q d e f g h = cc

said_few : (said : Result Fields KeyFault) (f : Fields) → (said >>= judged) ≡ Ok f → nat_le (runs_of (order_of f) f.vary) most_runs ≡ true
said_few (Ok g) f h =
    let (few, same) = few_by (nat_le (runs_of (order_of g) g.vary) most_runs) (all_have_worlds (world_of g) (order_of g) g.vary) (fault_at vary_key TooManyRuns) (fault_at world_key BadWorld) g f h in
    subst (λ x. nat_le (runs_of (order_of x) x.vary) most_runs ≡ true) same few
said_few (Err fault) f h = cc

pub few_runs : (file : Bytes) (f : Fields) → experiment_says file ≡ Ok f → runs_of (order_of f) f.vary ≤ 100000
few_runs file f says =
    let few : nat_le (runs_of (order_of f) f.vary) 100000 ≡ true = said_few (file_says file) f says in
    grind (arith, nat_tests)
