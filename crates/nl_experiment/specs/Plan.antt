-- What an experiment says: the fields of its file, where its runs are not too many and each has a world; or its first fault.
use Rattle.std.specs.Prelude.{◌≡◌, ℕ, ℤ, pos, Bool, true, nat_le, List, slice_index_or, None, Result, Ok, Err}
use Rattle.nl_fixed.specs.Nouns.{Bytes}
use Rattle.nl_experiment_sweep.specs.Sweep.{IsSweep, all_have_worlds, most_runs, runs_of}
use Rattle.nl_experiment_sweep.specs.declared.order.Order.{Order}
use Rattle.nl_experiment_sweep.specs.declared.worlds.World.{World}
use Rattle.nl_experiment_keys.specs.Reading.{◌>>=◌, fault_at, only_if}
use Rattle.nl_experiment_keys.specs.declared.faults.PlanKind.TheVariants.{TooManyRuns, BadWorld}
use Rattle.nl_experiment_keys.specs.declared.faults.KeyFault.{KeyFault}
use Rattle.nl_experiment_keys.specs.declared.faults.KeyRefusal.{KeyRefusal}
use Rattle.nl_experiment_fields.specs.File.{file_says}
use Rattle.nl_experiment_fields.specs.Keys.{vary_key, world_key}
use Rattle.nl_experiment_fields.specs.declared.fields.Fields.{Fields}
use Rattle.nl_experiment.specs.declared.faults.PlanFault.{PlanFault}
use Rattle.nl_experiment.specs.declared.faults.PlanRefusal.{PlanRefusal}

-- ---- runs and worlds

abbrev pub order_of : Fields → Order
order_of f = record { repetitions = f.repetitions; sequential = f.sequential }

-- four bounds are those of a world: the least and the greatest coordinate of x, and then of y
abbrev bound_at : List ℤ → ℕ → ℤ
bound_at bounds index = slice_index_or bounds index (pos 0)

abbrev pub world_by : List ℤ → Bool → Bool → World
world_by bounds wrap_x wrap_y = record {
  min_x = bound_at bounds 0;
  max_x = bound_at bounds 1;
  min_y = bound_at bounds 2;
  max_y = bound_at bounds 3;
  wrap_x = wrap_x;
  wrap_y = wrap_y;
}

abbrev pub world_of : Fields → World
world_of f = world_by f.bounds f.wrap_x f.wrap_y

-- there are not too many runs, and each has a world
abbrev pub judged : Fields → Result Fields KeyFault
judged f = do
  few ← only_if (nat_le (runs_of (order_of f) f.vary) most_runs) (fault_at vary_key TooManyRuns)
  worlds ← only_if (all_have_worlds (world_of f) (order_of f) f.vary) (fault_at world_key BadWorld)
  Ok f

-- what a file says
abbrev pub experiment_says : Bytes → Result Fields KeyFault
experiment_says file = file_says file >>= judged

-- what each experiment that is read keeps: its runs can be gone through, and each has a world
pub record IsPlan (f : Fields) : Type 0 where
  pub sweep : IsSweep (order_of f) f.vary
  pub worlds : all_have_worlds (world_of f) (order_of f) f.vary ≡ true

-- ---- faults

-- a fault at a key, which is none of a text
abbrev pub plan_fault : KeyFault → PlanFault
plan_fault fault = record { kind = fault.kind; key = fault.key; inner = None }

abbrev pub refused : KeyRefusal → PlanRefusal
refused (KeyRefusal.Fault fault) = PlanRefusal.Fault (plan_fault fault)
refused KeyRefusal.NoMemory = PlanRefusal.NoMemory

-- a call gives the experiment that is defined, or its first fault, or wants memory
abbrev pub Says : Result Fields KeyFault → Result Fields PlanRefusal → Type 0
Says defined (Ok fields) = defined ≡ Ok fields
Says defined (Err (PlanRefusal.Fault fault)) = (at : KeyFault) × (defined ≡ Err at) × (fault ≡ plan_fault at)
Says defined (Err PlanRefusal.NoMemory) = Unit {0}
