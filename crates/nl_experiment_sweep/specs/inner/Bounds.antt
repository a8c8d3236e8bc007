-- Bounds of the world by the choices that are varied, without going through all combinations.
use Rattle.std.specs.Prelude.{ℕ, ◌<◌, ◌≤◌, ℤ, List, [], ◌∷◌, Option, Some, None, unwrap_or, if◌then◌else◌}
use Rattle.std.specs.Borrow.{Bor}
use Rattle.std.specs.Option.{option_map}
use Rattle.std.specs.Str.{bytes_eq}
use Rattle.nl_fixed.specs.Nouns.{Name}
use Rattle.nl_fixed.specs.Numbers.{whole_part}
use Rattle.nl_grid.specs.Geometry.{IsWithinLimits}
use Rattle.nl_experiment_sweep.specs.Sweep.{most_runs, plane_of_world}
use Rattle.nl_experiment_sweep.specs.Varied.{HasValues, count_in, count_of, value_of}
use Rattle.nl_experiment_sweep.specs.declared.varied.Choice.{Choice}
use Rattle.nl_experiment_sweep.specs.declared.varied.Vary.{Vary}
use Rattle.nl_experiment_sweep.specs.declared.worlds.World.{World}

-- the choice of the first variable that has the name
abbrev pub choice_among : Name → List Vary → Option Choice
choice_among name [] = None
choice_among name (v ∷ vs) = if bytes_eq v.name name then Some v.choice else choice_among name vs

-- what is lent
abbrev pub held : Option (Bor Choice) → Option Choice
held choice = option_map (λ choice. choice.now) choice

-- how many values a bound has: one where it isn't varied
abbrev pub bound_count : Option Choice → ℕ
bound_count None = 1
bound_count (Some choice) = count_of choice

-- and the value at an index
abbrev pub bound_at : ℤ → Option Choice → ℕ → ℤ
bound_at usual None index = usual
bound_at usual (Some choice) index = unwrap_or (option_map whole_part (count_in (value_of choice index))) usual

-- ---- worlds by the indexes of the four bounds

abbrev pub with_min_x : World → Option Choice → ℕ → World
with_min_x w choice i = record { min_x = bound_at w.min_x choice i; max_x = w.max_x; min_y = w.min_y; max_y = w.max_y; wrap_x = w.wrap_x; wrap_y = w.wrap_y }

abbrev pub with_max_x : World → Option Choice → ℕ → World
with_max_x w choice i = record { min_x = w.min_x; max_x = bound_at w.max_x choice i; min_y = w.min_y; max_y = w.max_y; wrap_x = w.wrap_x; wrap_y = w.wrap_y }

abbrev pub with_min_y : World → Option Choice → ℕ → World
with_min_y w choice i = record { min_x = w.min_x; max_x = w.max_x; min_y = bound_at w.min_y choice i; max_y = w.max_y; wrap_x = w.wrap_x; wrap_y = w.wrap_y }

abbrev pub with_max_y : World → Option Choice → ℕ → World
with_max_y w choice i = record { min_x = w.min_x; max_x = w.max_x; min_y = w.min_y; max_y = bound_at w.max_y choice i; wrap_x = w.wrap_x; wrap_y = w.wrap_y }

-- the bounds are those of a world for each value of the last bound, of the last two, and so on
abbrev pub EachMaxY : World → Option Choice → Type 0
EachMaxY w max_y = (i : ℕ) → i < bound_count max_y → IsWithinLimits (plane_of_world (with_max_y w max_y i))

abbrev pub EachMinY : World → Option Choice → Option Choice → Type 0
EachMinY w min_y max_y = (i : ℕ) → i < bound_count min_y → EachMaxY (with_min_y w min_y i) max_y

abbrev pub EachMaxX : World → Option Choice → Option Choice → Option Choice → Type 0
EachMaxX w max_x min_y max_y = (i : ℕ) → i < bound_count max_x → EachMinY (with_max_x w max_x i) min_y max_y

abbrev pub EachMinX : World → Option Choice → Option Choice → Option Choice → Option Choice → Type 0
EachMinX w min_x max_x min_y max_y = (i : ℕ) → i < bound_count min_x → EachMaxX (with_min_x w min_x i) max_x min_y max_y

-- a bound that is varied has values, and not too many
abbrev pub IsFew : Choice → Type 0
IsFew choice = HasValues choice × (count_of choice ≤ most_runs)
