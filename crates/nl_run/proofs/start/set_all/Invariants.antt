-- What is set, and what is left to be set, are all.
use Rattle.std.proofs.Common.{◌≡◌, true, map, length}
use Rattle.nl_exec.specs.Machines.{IsClosed, in_world, program_of, scene_of, spent_of, units_left, world_of}
use Rattle.nl_experiment_fields.specs.Written.{all_written}
use Rattle.nl_experiment_sweep.specs.Varied.{plain_setting}
use Rattle.nl_run.specs.Job.{set_all}
use Rattle.nl_run.proofs.start.set_all.Given as goal

abbrev pub invariant-settings : goal.invariant-settings
invariant-settings g l = record {
  closed : IsClosed l.machine;
  same : in_world (set_all l.program (map plain_setting l.left) (world_of l.machine)) (scene_of l.machine) ≡ in_world (set_all l.program l.settings (world_of l.fn.machine)) (scene_of l.fn.machine);
  program : program_of l.machine ≡ program_of l.fn.machine;
  spent : spent_of l.machine ≡ spent_of l.fn.machine;
  left : units_left l.machine ≡ units_left l.fn.machine;
  written : all_written (map plain_setting l.left) ≡ true;
}

abbrev pub decreases-settings : goal.decreases-settings
decreases-settings g l = length l.left
