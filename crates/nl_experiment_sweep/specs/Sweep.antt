-- The runs of an experiment: how many there are, and the settings, the seed and the world of each. The order of runs is BehaviorSpace's.
use Rattle.std.specs.Prelude.{ℕ, ◌+◌, ◌-◌, ◌*◌, ◌/◌, ◌%◌, ◌^◌, ◌<◌, ◌≤◌, ℤ, pos, int_le, nat_le, Bool, ◌&&◌, if◌then◌else◌, List, [], ◌∷◌, Option, Some, None, unwrap_or, unsigned_abs}
use Rattle.std.specs.List.{list_all, range_with_len}
use Rattle.nl_fixed.specs.Nouns.{Name}
use Rattle.nl_grid.specs.Geometry.{Plane, plane_of, side, patches_of}
use Rattle.nl_grid.specs.declared.axis.Axis.{Axis}
use Rattle.nl_experiment_sweep.specs.Varied.{PlainSetting, count_of, value_of, whole_among, min_pxcor, max_pxcor, min_pycor, max_pycor, random_seed, AllHaveValues}
use Rattle.nl_experiment_sweep.specs.declared.varied.Vary.{Vary}
use Rattle.nl_experiment_sweep.specs.declared.order.Order.{Order}
use Rattle.nl_experiment_sweep.specs.declared.worlds.World.{World}

-- an experiment has at most so many runs
abbrev pub most_runs : ℕ
most_runs = 100000

-- ---- combinations, which count from 0, and runs, which count from 1

-- how many combinations of values there are
abbrev pub combinations : List Vary → ℕ
combinations [] = 1
combinations (v ∷ vs) = count_of v.choice * combinations vs

abbrev pub runs_of : Order → List Vary → ℕ
runs_of order vs = order.repetitions * combinations vs

-- all repetitions of a combination come together, or each repetition goes through all combinations
abbrev pub combination_of : Order → List Vary → ℕ → ℕ
combination_of order vs run =
    if order.sequential then (run - 1) / order.repetitions else (run - 1) % combinations vs

-- what is varied can be gone through
pub record IsSweep (order : Order) (vs : List Vary) : Type 0 where
  pub repeated : 0 < order.repetitions
  pub values : AllHaveValues vs
  pub few : runs_of order vs ≤ most_runs

-- the number of a run
pub record IsRun (order : Order) (vs : List Vary) (run : ℕ) : Type 0 where
  pub from : 1 ≤ run
  pub to : run ≤ runs_of order vs

-- ---- settings

-- the index of a variable's value in a combination: the first variable is the slowest
abbrev pub index_of : ℕ → Vary → List Vary → ℕ
index_of combination v others = combination / combinations others % count_of v.choice

-- the varied variables in order, with the values of a combination
abbrev pub settings_in : ℕ → List Vary → List PlainSetting
settings_in combination [] = []
settings_in combination (v ∷ vs) =
    record { name = v.name; value = value_of v.choice (index_of combination v vs) } ∷ settings_in combination vs

unfoldable pub settings_of : Order → List Vary → ℕ → List PlainSetting
settings_of order vs run = settings_in (combination_of order vs run) vs

-- ---- seeds

-- the seed that is varied, or that of the first run and so on
abbrev pub seed_by : Option ℤ → ℕ → ℕ → ℕ
seed_by (Some varied) seed run = unsigned_abs varied
seed_by None seed run = (seed + (run - 1)) % 2 ^ 64

unfoldable pub seed_of : Order → List Vary → ℕ → ℕ → ℕ
seed_of order vs seed run = seed_by (whole_among random_seed (settings_of order vs run)) seed run

-- ---- worlds

-- a bound that is varied, or else the usual one
abbrev pub bound_or : ℤ → Name → List PlainSetting → ℤ
bound_or usual name ss = unwrap_or (whole_among name ss) usual

abbrev pub world_in : World → List PlainSetting → World
world_in w ss = record {
  min_x = bound_or w.min_x min_pxcor ss;
  max_x = bound_or w.max_x max_pxcor ss;
  min_y = bound_or w.min_y min_pycor ss;
  max_y = bound_or w.max_y max_pycor ss;
  wrap_x = w.wrap_x;
  wrap_y = w.wrap_y;
}

abbrev pub plane_of_world : World → Plane
plane_of_world w = plane_of w.min_x w.max_x w.min_y w.max_y w.wrap_x w.wrap_y

abbrev pub plane_in : World → List PlainSetting → Plane
plane_in w ss = plane_of_world (world_in w ss)

unfoldable pub plane_of_run : World → Order → List Vary → ℕ → Plane
plane_of_run w order vs run = plane_in w (settings_of order vs run)

-- as tests: 0 lies on the axis, which has at most 1,001 patches; and a world has at most 262,144
abbrev pub is_axis : Axis → Bool
is_axis axis = int_le axis.least (pos 0) && int_le (pos 0) axis.greatest && nat_le (side axis) 1001

abbrev pub is_world : Plane → Bool
is_world plane = is_axis plane.x && is_axis plane.y && nat_le (patches_of plane) 262144

-- each run has a world
unfoldable pub all_have_worlds : World → Order → List Vary → Bool
all_have_worlds w order vs = list_all (λ run. is_world (plane_of_run w order vs run)) (range_with_len 1 (runs_of order vs))
