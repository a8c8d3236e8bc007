-- The rows of a table of keys: what stands at each, in which range, and what is usual. A later format of the file adds rows.
use Rattle.std.specs.Prelude.{ℤ, Bool, ◌++◌, [], Option, Some, None, Result, Ok}
use Rattle.toml.specs.Data.{Data, Members, get_member}
use Rattle.nl_fixed.specs.Nouns.{Bytes, Name, Texts}
use Rattle.nl_experiment_keys.specs.declared.faults.PlanKind.{PlanKind}
use Rattle.nl_experiment_keys.specs.declared.faults.KeyFault.{KeyFault}
use Rattle.nl_experiment_keys.specs.declared.rows.WholeKey.{WholeKey}
use Rattle.nl_experiment_keys.specs.declared.rows.TruthKey.{TruthKey}
use Rattle.nl_experiment_keys.specs.declared.rows.TextKey.{TextKey}
use Rattle.nl_experiment_keys.specs.Reading.{◌>>=◌, told_at, whole_in, truth_in, text_in, texts_in, usual_or, required}

-- a whole number: its bounds, and the number that is meant where the key is left out
pub record WholeRow : Type 0 where
  pub name : Name
  pub least : ℤ
  pub most : ℤ
  pub usual : ℤ

-- a truth
pub record TruthRow : Type 0 where
  pub name : Name
  pub usual : Bool

-- a text
pub record TextRow : Type 0 where
  pub name : Name
  pub usual : Bytes

-- the rows that the code's keys are
abbrev pub whole_row : WholeKey → WholeRow
whole_row key = record { name = key.name.now; least = key.least; most = key.most; usual = key.usual }

abbrev pub truth_row : TruthKey → TruthRow
truth_row key = record { name = key.name.now; usual = key.usual }

abbrev pub text_row : TextKey → TextRow
text_row key = record { name = key.name.now; usual = key.usual.now }

-- what stands at a row's key in a table, which is told behind what the table is called
abbrev pub whole_at : Bytes → WholeRow → Members → Result ℤ KeyFault
whole_at before row members =
    told_at (before ++ row.name) (usual_or row.usual (whole_in row.least row.most) (get_member row.name members))

abbrev pub truth_at : Bytes → TruthRow → Members → Result Bool KeyFault
truth_at before row members = told_at (before ++ row.name) (usual_or row.usual truth_in (get_member row.name members))

abbrev pub text_at : TextRow → Members → Result Bytes KeyFault
text_at row members = told_at row.name (usual_or row.usual text_in (get_member row.name members))

-- a text that has to be there, one that may be, and a list of texts
abbrev pub required_text_at : Name → Members → Result Bytes KeyFault
required_text_at key members = told_at key (required text_in (get_member key members))

abbrev pub some_text_in : Data → Result (Option Bytes) PlanKind
some_text_in value = text_in value >>= λ text. Ok (Some text)

abbrev pub maybe_text_at : Name → Members → Result (Option Bytes) KeyFault
maybe_text_at key members = told_at key (usual_or None some_text_in (get_member key members))

abbrev pub texts_at : Name → Members → Result Texts KeyFault
texts_at key members = told_at key (usual_or [] texts_in (get_member key members))
