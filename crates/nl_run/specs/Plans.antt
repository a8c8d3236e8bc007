-- What a plan stands for.
use Rattle.std.specs.Option.{option_map}
use Rattle.nl_tree.specs.Views.{plain}
use Rattle.nl_run.specs.Job.{Job, Lone, lone, lones}
use Rattle.nl_run.specs.declared.plan.LoneText.{LoneText}
use Rattle.nl_run.specs.declared.plan.Plan.{Plan}

abbrev pub lone_seen : LoneText → Lone
lone_seen l = lone l.text.now (plain l.tree.now)

-- the run
unfoldable pub job_in : Plan → Job
job_in p = record {
  program = p.program.now;
  source = p.source.now;
  shape = p.shape;
  experiment = p.name.now;
  number = p.number;
  seed = p.seed;
  globals = p.globals.now;
  settings = p.settings;
  setup = lone_seen p.setup;
  go = lone_seen p.go;
  until = option_map lone_seen p.until;
  when = option_map lone_seen p.when;
  metrics = lones p.metrics.now p.trees.now;
  steps = p.steps;
  budget = p.budget;
}
