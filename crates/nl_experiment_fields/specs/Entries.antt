-- The tables inside of an experiment: its world, its global variables, and what it varies. The order of faults is this project's own choice.
use Rattle.std.specs.Prelude.{ℕ, ◌+◌, ℤ, pos, ◌-ℤ◌, int_le, int_lt, unsigned_abs, ◌/◌, Bool, true, false, not, ◌&&◌, ◌||◌, List, [], ◌∷◌, ◌++◌, codes, Option, Some, None, Result, Ok, is_some}
use Rattle.std.specs.Fmt.{decimal}
use Rattle.toml.specs.Data.{Data, Items, no_items, item, Members, no_members, member, get_member}
use Rattle.nl_fixed.specs.Nouns.{Bytes, Name, Names}
use Rattle.nl_fixed.specs.Numbers.{is_whole}
use Rattle.nl_value.specs.Plain.{Plain, PlainNumber}
use Rattle.nl_experiment_sweep.specs.Varied.{PlainSetting}
use Rattle.nl_experiment_sweep.specs.declared.varied.Choice.{Choice}
use Rattle.nl_experiment_sweep.specs.declared.varied.Choice.TheVariants.{Listed, Stepped}
use Rattle.nl_experiment_sweep.specs.declared.varied.Vary.{Vary}
use Rattle.nl_experiment_sweep.specs.declared.worlds.World.{World}
use Rattle.nl_experiment_keys.specs.Reading.{◌>>=◌, told_at, only_if, text_in, members_in, each_item, items_in, usual_or, required, all_known}
use Rattle.nl_experiment_keys.specs.Rows.{whole_at, truth_at}
use Rattle.nl_experiment_keys.specs.declared.faults.PlanKind.{PlanKind}
use Rattle.nl_experiment_keys.specs.declared.faults.PlanKind.TheVariants.{BadLiteral}
use Rattle.nl_experiment_keys.specs.declared.faults.KeyFault.{KeyFault}
use Rattle.nl_experiment_fields.specs.Keys.{in_world, world_key, world_keys, min_pxcor_key, max_pxcor_key, min_pycor_key, max_pycor_key, wrap_x_key, wrap_y_key, in_globals, globals_key, vary_key, name_key, values_key, from_key, step_key, to_key, entry_keys}
use Rattle.nl_experiment_fields.specs.Names.{lowered, can_be_widget, can_be_varied, is_of_run, is_seed}
use Rattle.nl_experiment_fields.specs.Reading.{kind_of_literal, kinds_in, literal_in, number_in}

-- no table is the same as an empty one
abbrev pub table_at : Name → Members → Result Members KeyFault
table_at key members = told_at key (usual_or no_members members_in (get_member key members))

-- ---- `world`

abbrev pub world_in : Members → Result World KeyFault
world_in members = do
  known ← all_known in_world world_keys members
  min_x ← whole_at in_world min_pxcor_key members
  max_x ← whole_at in_world max_pxcor_key members
  min_y ← whole_at in_world min_pycor_key members
  max_y ← whole_at in_world max_pycor_key members
  wrap_x ← truth_at in_world wrap_x_key members
  wrap_y ← truth_at in_world wrap_y_key members
  Ok (record { min_x = min_x; max_x = max_x; min_y = min_y; max_y = max_y; wrap_x = wrap_x; wrap_y = wrap_y })

abbrev pub world_at : Members → Result World KeyFault
world_at members = table_at world_key members >>= world_in

-- ---- `globals`

-- the kind of the value is told before the name, and the name before the literal
abbrev pub setting_in : Names → Name → Data → Result PlainSetting PlanKind
setting_in others name value = do
  kind ← kind_of_literal value
  right ← only_if (can_be_widget others name) BadLiteral
  literal ← literal_in value
  Ok (record { name = name; value = literal })

-- From the first key on, where others are known already: a document has its keys in byte order, as they are written. A name that stands there
-- twice in lower case is told at the later key.
abbrev pub settings_in : Names → Members → Result (List PlainSetting) KeyFault
settings_in others no_members = Ok []
settings_in others (member key value rest) =
    told_at (in_globals ++ lowered key) (setting_in others (lowered key) value) >>= λ one.
    settings_in (others ++ lowered key ∷ []) rest >>= λ more. Ok (one ∷ more)

abbrev pub globals_at : Members → Result (List PlainSetting) KeyFault
globals_at members = table_at globals_key members >>= settings_in []

-- ---- an entry of `vary`

-- bounds are whole numbers, and seeds whole numbers from 0
abbrev pub is_right_count : Name → ℤ → Bool
is_right_count name count = not (is_of_run name) || (is_whole count && (not (is_seed name) || int_le (pos 0) count))

-- bounds and seeds are numbers; a widget takes any literal
abbrev pub is_right_value : Name → Plain → Bool
is_right_value name (PlainNumber count) = is_right_count name count
is_right_value name other = not (is_of_run name)

-- the name of what is varied, where others are varied already
abbrev pub varied_name : Names → Data → Result Name PlanKind
varied_name others value =
    text_in value >>= λ text. only_if (can_be_varied others (lowered text)) BadLiteral >>= λ right. Ok (lowered text)

-- the values of an entry, each of a kind that a literal has
abbrev pub values_in : Data → Result Items PlanKind
values_in value = items_in value >>= λ items. kinds_in items >>= λ kinds. Ok items

abbrev pub is_empty : Items → Bool
is_empty no_items = true
is_empty (item d ds) = false

-- there is a value, and each is a literal that the variable may have
abbrev pub right_value : Name → Data → Result Plain PlanKind
right_value name value = literal_in value >>= λ literal. only_if (is_right_value name literal) BadLiteral >>= λ right. Ok literal

abbrev pub listed_in : Name → Items → Result Choice PlanKind
listed_in name items =
    only_if (not (is_empty items)) BadLiteral >>= λ some. each_item (right_value name) items >>= λ values. Ok (Listed values)

-- how many numbers there are from one on, each greater by a step above 0, up to another
abbrev pub count_of_steps : ℤ → ℤ → ℤ → ℕ
count_of_steps from step to = unsigned_abs (to -ℤ from) / unsigned_abs step + 1

-- a number at a key of an entry that steps
abbrev pub right_number : Name → Data → Result ℤ PlanKind
right_number name value = number_in value >>= λ count. only_if (is_right_count name count) BadLiteral >>= λ right. Ok count

abbrev pub stepped_number : Bytes → Name → Name → Members → Result ℤ KeyFault
stepped_number before name key members = told_at (before ++ key) (required (right_number name) (get_member key members))

-- a step is above 0, and the end isn't below the beginning
abbrev pub stepped_in : Bytes → Name → Members → Result Choice KeyFault
stepped_in before name members = do
  from ← stepped_number before name from_key members
  step ← stepped_number before name step_key members
  up ← told_at (before ++ step_key) (only_if (int_lt (pos 0) step) BadLiteral)
  to ← stepped_number before name to_key members
  reached ← told_at (before ++ to_key) (only_if (int_le from to) BadLiteral)
  Ok (Stepped from step (count_of_steps from step to))

-- Which of both ways is gone: exactly one has to be there. The second is there where all of its three keys are, and stands beside the first
-- where any of them does.
abbrev pub is_given : Name → Members → Bool
is_given key members = is_some (get_member key members)

abbrev pub steps_given : Members → Bool
steps_given members = is_given from_key members || is_given step_key members || is_given to_key members

abbrev pub all_steps_given : Members → Bool
all_steps_given members = is_given from_key members && is_given step_key members && is_given to_key members

-- the first way, whose faults stand at its key
abbrev pub listed_at : Bytes → Name → Data → Members → Result Choice KeyFault
listed_at before name value members =
    told_at (before ++ values_key) (values_in value >>= λ items. only_if (not (steps_given members)) BadLiteral >>= λ one. listed_in name items)

-- that neither way is gone stands there too
abbrev pub stepped_at : Bytes → Name → Members → Result Choice KeyFault
stepped_at before name members =
    told_at (before ++ values_key) (only_if (all_steps_given members) BadLiteral) >>= λ all. stepped_in before name members

abbrev pub choice_by : Bytes → Name → Members → Option Data → Result Choice KeyFault
choice_by before name members (Some value) = listed_at before name value members
choice_by before name members None = stepped_at before name members

abbrev pub choice_in : Bytes → Name → Members → Result Choice KeyFault
choice_in before name members = choice_by before name members (get_member values_key members)

-- what an entry is called in a key: its number among the entries, from 1
abbrev pub in_entry : ℕ → Bytes
in_entry number = codes "vary " ++ decimal number ++ codes "."

abbrev pub entry_by : Bytes → Names → Members → Result Vary KeyFault
entry_by before others members = do
  known ← all_known before entry_keys members
  name ← told_at (before ++ name_key) (required (varied_name others) (get_member name_key members))
  choice ← choice_in before name members
  Ok (record { name = name; choice = choice })

-- ---- `vary`

-- an entry that is no table is told at `vary`, before all that is told of entries
abbrev pub tables_in : Data → Result (List Members) PlanKind
tables_in value = items_in value >>= λ items. each_item members_in items

-- from an entry on, where others are varied already
abbrev pub entries_from : ℕ → Names → List Members → Result (List Vary) KeyFault
entries_from number others [] = Ok []
entries_from number others (members ∷ rest) =
    entry_by (in_entry number) others members >>= λ one.
    entries_from (number + 1) (others ++ one.name ∷ []) rest >>= λ more. Ok (one ∷ more)

abbrev pub vary_at : Members → Result (List Vary) KeyFault
vary_at members = told_at vary_key (usual_or [] tables_in (get_member vary_key members)) >>= λ tables. entries_from 1 [] tables
