-- The runs of an experiment: what each is made of. Of other runs it has nothing.
use Rattle.std.specs.Prelude.{ℕ}
use Rattle.std.specs.Option.{option_map}
use Rattle.nl_fixed.specs.Nouns.{Bytes}
use Rattle.nl_tree.specs.Checked.{Checked}
use Rattle.nl_tree.specs.Views.{plain}
use Rattle.nl_experiment_sweep.specs.Sweep.{plane_of_run, seed_of, settings_of}
use Rattle.nl_experiment_fields.specs.declared.fields.Fields.{Fields}
use Rattle.nl_experiment.specs.Plan.{order_of, world_of}
use Rattle.nl_experiment.specs.declared.texts.Texts as declared
use Rattle.nl_run.specs.Job.{Job, Trees, lone, lones, maybe_lone}

abbrev pub trees_seen : declared.Texts → Trees
trees_seen t = record { setup = plain t.setup; go = plain t.go; until = option_map plain t.until; when = option_map plain t.measure_when; metrics = t.metrics }

-- the run of a number
abbrev pub job_by : Checked → Bytes → Fields → Trees → ℕ → Job
job_by p source f trees number = record {
  program = p;
  source = source;
  shape = plane_of_run (world_of f) (order_of f) f.vary number;
  experiment = f.name;
  number = number;
  seed = seed_of (order_of f) f.vary f.seed number;
  globals = f.globals;
  settings = settings_of (order_of f) f.vary number;
  setup = lone f.setup trees.setup;
  go = lone f.go trees.go;
  until = maybe_lone f.until trees.until;
  when = maybe_lone f.measure_when trees.when;
  metrics = lones f.metrics trees.metrics;
  steps = f.steps;
  budget = f.budget;
}
