-- The keys of an experiment, a row each: what stands there, in which range, and what is usual, and in which formats. The keys and what they
-- mean are BehaviorSpace's, where it has them; their names, ranges and usual values are this project's own choice.
use Rattle.std.specs.Prelude.{ℤ, pos, neg_ℤ, Bool, true, false, if◌then◌else◌, List, [], ◌∷◌, map, filter, codes, Option, Some, None, Result, Ok, Err}
use Rattle.std.specs.Ordering.{int_eq}
use Rattle.toml.specs.Data.{Members}
use Rattle.nl_fixed.specs.Nouns.{Bytes, Name, Names}
use Rattle.nl_experiment_keys.specs.Rows.{WholeRow, TruthRow, TextRow, whole_at}
use Rattle.nl_experiment_keys.specs.declared.faults.KeyFault.{KeyFault}
use Rattle.nl_experiment_fields.specs.declared.keys.KeyRow as declared
use Rattle.nl_experiment_sweep.specs.Varied.{max_pxcor, max_pycor, min_pxcor, min_pycor}

-- the numbers that an integer of TOML can have
abbrev pub least_integer : ℤ
least_integer = neg_ℤ (pos 9223372036854775808)

abbrev pub most_integer : ℤ
most_integer = pos 9223372036854775807

abbrev pub whole : Name → ℤ → ℤ → ℤ → WholeRow
whole name least most usual = record { name = name; least = least; most = most; usual = usual }

-- ---- the keys of the document

abbrev pub format_key : WholeRow
format_key = whole (codes "format") (pos 1) (pos 2) (pos 1)

abbrev pub seed_key : WholeRow
seed_key = whole (codes "seed") (pos 0) most_integer (pos 0)

abbrev pub repetitions_key : WholeRow
repetitions_key = whole (codes "repetitions") (pos 1) (pos 100000) (pos 1)

abbrev pub sequential_key : TruthRow
sequential_key = record { name = codes "sequential"; usual = true }

abbrev pub setup_key : TextRow
setup_key = record { name = codes "setup"; usual = codes "setup" }

abbrev pub go_key : TextRow
go_key = record { name = codes "go"; usual = codes "go" }

abbrev pub steps_key : WholeRow
steps_key = whole (codes "steps") (pos 0) most_integer (pos 0)

abbrev pub every_step_key : TruthRow
every_step_key = record { name = codes "every-step"; usual = false }

abbrev pub budget_key : WholeRow
budget_key = whole (codes "budget") (pos 1) (pos 1000000000) (pos 10000000)

-- a text that has to be there, one that may be, a list of texts, a table, a table of names, and a list of tables
abbrev pub name_key : Name
name_key = codes "name"

abbrev pub until_key : Name
until_key = codes "until"

abbrev pub measure_when_key : Name
measure_when_key = codes "measure-when"

abbrev pub metrics_key : Name
metrics_key = codes "metrics"

abbrev pub world_key : Name
world_key = codes "world"

abbrev pub globals_key : Name
globals_key = codes "globals"

abbrev pub vary_key : Name
vary_key = codes "vary"

-- ---- the formats in which they stand

-- A key, and whether it is one of format 1, and one of format 2. A further format is a further column.
pub record KeyRow : Type 0 where
  pub name : Name
  pub first : Bool
  pub second : Bool

abbrev in_both : Name → KeyRow
in_both name = record { name = name; first = true; second = true }

-- all keys, in the order in which their faults are told
abbrev pub key_rows : List KeyRow
key_rows =
    in_both format_key.name
    ∷ in_both name_key
    ∷ in_both seed_key.name
    ∷ in_both repetitions_key.name
    ∷ in_both sequential_key.name
    ∷ in_both setup_key.name
    ∷ in_both go_key.name
    ∷ in_both until_key
    ∷ in_both steps_key.name
    ∷ record { name = every_step_key.name; first = true; second = false }
    ∷ record { name = measure_when_key; first = false; second = true }
    ∷ in_both budget_key.name
    ∷ in_both metrics_key
    ∷ in_both world_key
    ∷ in_both globals_key
    ∷ in_both vary_key
    ∷ []

abbrev pub names_of : List KeyRow → Names
names_of rows = map (λ row. row.name) rows

-- a row of the table in the code
abbrev pub row_seen : declared.KeyRow → KeyRow
row_seen row = record { name = row.name.now; first = row.first; second = row.second }

-- A key is known where it is one of the format. Where no format is known, each key is.
abbrev pub is_known : Option ℤ → KeyRow → Bool
is_known (Some format) row = if int_eq format (pos 1) then row.first else row.second
is_known None row = true

abbrev pub keys_of : Option ℤ → Names
keys_of format = names_of (filter (is_known format) key_rows)

-- the format that stands in a document; where it is none of these, its fault comes behind those of unknown keys
abbrev pub format_by : Result ℤ KeyFault → Option ℤ
format_by (Ok format) = Some format
format_by (Err fault) = None

abbrev pub format_in : Members → Option ℤ
format_in members = format_by (whole_at [] format_key members)

-- the keys that a document may have
abbrev pub known_in : Members → Names
known_in members = keys_of (format_in members)

-- ---- the keys of `world`

abbrev pub in_world : Bytes
in_world = codes "world."

-- bounds: the least and the greatest coordinates of x, and then of y
abbrev bound : Name → ℤ → WholeRow
bound name usual = whole name least_integer most_integer usual

abbrev pub min_pxcor_key : WholeRow
min_pxcor_key = bound min_pxcor (neg_ℤ (pos 16))

abbrev pub max_pxcor_key : WholeRow
max_pxcor_key = bound max_pxcor (pos 16)

abbrev pub min_pycor_key : WholeRow
min_pycor_key = bound min_pycor (neg_ℤ (pos 16))

abbrev pub max_pycor_key : WholeRow
max_pycor_key = bound max_pycor (pos 16)

abbrev pub wrap_x_key : TruthRow
wrap_x_key = record { name = codes "wrap-x"; usual = true }

abbrev pub wrap_y_key : TruthRow
wrap_y_key = record { name = codes "wrap-y"; usual = true }

abbrev pub world_keys : Names
world_keys =
    min_pxcor_key.name ∷ max_pxcor_key.name ∷ min_pycor_key.name ∷ max_pycor_key.name ∷ wrap_x_key.name ∷ wrap_y_key.name ∷ []

-- ---- the keys of `globals` are names

abbrev pub in_globals : Bytes
in_globals = codes "globals."

-- ---- the keys of an entry of `vary`

abbrev pub values_key : Name
values_key = codes "values"

abbrev pub from_key : Name
from_key = codes "from"

abbrev pub step_key : Name
step_key = codes "step"

abbrev pub to_key : Name
to_key = codes "to"

abbrev pub entry_keys : Names
entry_keys = name_key ∷ values_key ∷ from_key ∷ step_key ∷ to_key ∷ []
