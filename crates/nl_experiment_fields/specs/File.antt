-- What the document of an experiment says, key by key in the order of the rows: its fields, or its first fault.
use Rattle.std.specs.Prelude.{Bool, true, false, [], ◌∷◌, codes, unsigned_abs, Option, Some, Result, Ok}
use Rattle.toml.specs.Data.{Members}
use Rattle.nl_fixed.specs.Nouns.{Bytes}
use Rattle.nl_experiment_keys.specs.Document.{file_holds}
use Rattle.nl_experiment_keys.specs.Reading.{◌>>=◌, all_known}
use Rattle.nl_experiment_keys.specs.Rows.{whole_at, truth_at, text_at, required_text_at, maybe_text_at, texts_at}
use Rattle.nl_experiment_keys.specs.declared.faults.KeyFault.{KeyFault}
use Rattle.nl_experiment_fields.specs.Entries.{world_at, globals_at, vary_at}
use Rattle.nl_experiment_fields.specs.Keys.{known_in, format_key, name_key, seed_key, repetitions_key, sequential_key, setup_key, go_key, until_key, steps_key, every_step_key, measure_when_key, budget_key, metrics_key}
use Rattle.nl_experiment_fields.specs.declared.fields.Fields.{Fields}
use Rattle.nl_experiment_fields.specs.declared.fields.Head.{Head}
use Rattle.nl_experiment_fields.specs.declared.fields.Scripts.{Scripts}
use Rattle.nl_experiment_fields.specs.declared.fields.Measures.{Measures}

-- what the experiment is called, and its order of runs
abbrev pub head_in : Members → Result Head KeyFault
head_in members = do
  format ← whole_at [] format_key members
  name ← required_text_at name_key members
  seed ← whole_at [] seed_key members
  repetitions ← whole_at [] repetitions_key members
  sequential ← truth_at [] sequential_key members
  Ok (record { name = name; seed = unsigned_abs seed; repetitions = unsigned_abs repetitions; sequential = sequential })

-- its texts
abbrev pub scripts_in : Members → Result Scripts KeyFault
scripts_in members = do
  setup ← text_at setup_key members
  go ← text_at go_key members
  until ← maybe_text_at until_key members
  Ok (record { setup = setup; go = go; until = until })

-- the condition under which the metrics are measured: at every step is where `true` is true
abbrev pub when_of : Bool → Option Bytes → Option Bytes
when_of true text = Some (codes "true")
when_of false text = text

-- how long a run goes on, and what is measured
abbrev pub measures_in : Members → Result Measures KeyFault
measures_in members = do
  steps ← whole_at [] steps_key members
  every_step ← truth_at [] every_step_key members
  measure_when ← maybe_text_at measure_when_key members
  budget ← whole_at [] budget_key members
  metrics ← texts_at metrics_key members
  Ok (record { steps = unsigned_abs steps; measure_when = when_of every_step measure_when; budget = unsigned_abs budget; metrics = metrics })

-- all
abbrev pub fields_in : Members → Result Fields KeyFault
fields_in members = do
  known ← all_known [] (known_in members) members
  head ← head_in members
  scripts ← scripts_in members
  measures ← measures_in members
  world ← world_at members
  globals ← globals_at members
  vary ← vary_at members
  Ok (record {
    name = head.name;
    seed = head.seed;
    repetitions = head.repetitions;
    sequential = head.sequential;
    setup = scripts.setup;
    go = scripts.go;
    until = scripts.until;
    steps = measures.steps;
    measure_when = measures.measure_when;
    budget = measures.budget;
    metrics = measures.metrics;
    bounds = world.min_x ∷ world.max_x ∷ world.min_y ∷ world.max_y ∷ [];
    wrap_x = world.wrap_x;
    wrap_y = world.wrap_y;
    globals = globals;
    vary = vary;
  })

-- the fields that a file has
abbrev pub file_says : Bytes → Result Fields KeyFault
file_says file = file_holds file >>= fields_in
