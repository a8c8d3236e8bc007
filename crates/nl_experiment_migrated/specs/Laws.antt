-- What the definitions of format 2 mean.
use Rattle.std.specs.Prelude.{◌≡◌, ◌≤◌, pos, true, false, length, codes, if◌then◌else◌, Some, None, Ok}
use Rattle.toml.specs.Data.{integer, string, Members, get_member, members_are_sorted, same_key}
use Rattle.nl_fixed.specs.Nouns.{Bytes, Name}
use Rattle.nl_experiment_keys.specs.Document.{file_limit}
use Rattle.nl_experiment_fields.specs.File.{fields_in}
use Rattle.nl_experiment_fields.specs.Keys.{every_step_key, format_key, measure_when_key}
use Rattle.nl_experiment_fields.specs.declared.fields.Fields.{Fields}
use Rattle.nl_experiment.specs.Plan.{experiment_says}
use Rattle.nl_experiment_migrated.specs.Migrated.{IsMigrated, from_first, is_true}
use Rattle.nl_experiment_migrated.specs.Plain.{ArePlain}

-- ---- what is accepted

-- The document of each experiment is plain. That keys ascend, so that none stands there twice, is said of members and not of files: it is so
-- of each table, and known of none that isn't there.
abbrev pub DocumentsArePlain : Type 0
DocumentsArePlain = (members : Members) (f : Fields) → members_are_sorted members ≡ true → fields_in members ≡ Ok f → ArePlain members

-- ---- what stands in format 2

-- what stands at each key: of three keys what is said here, and at each other what stood there
pub record StandInSecond (members : Members) : Type 0 where
  pub format : get_member format_key.name (from_first members) ≡ Some (integer (pos 2))
  pub every_step : get_member every_step_key.name (from_first members) ≡ None
  pub condition : get_member measure_when_key (from_first members)
      ≡ (if is_true (get_member every_step_key.name members) then Some (string (codes "true")) else get_member measure_when_key members)
  pub others : (key : Name) → same_key key format_key.name ≡ false → same_key key every_step_key.name ≡ false → same_key key measure_when_key ≡ false
      → get_member key (from_first members) ≡ get_member key members

abbrev pub KeysStandInSecond : Type 0
KeysStandInSecond = (members : Members) → StandInSecond members

-- ---- what is said

-- an experiment says in format 2 what it said, where the text isn't too long
abbrev pub TheSameIsSaid : Type 0
TheSameIsSaid = (file text : Bytes) (f : Fields) → experiment_says file ≡ Ok f → IsMigrated file text → length text ≤ file_limit → experiment_says text ≡ Ok f

-- ---- one text

-- an experiment has one text in format 2
abbrev pub TextsAreOne : Type 0
TextsAreOne = (file x y : Bytes) (f : Fields) → experiment_says file ≡ Ok f → IsMigrated file x → IsMigrated file y → x ≡ y

-- and that text is its own
abbrev pub TextsStay : Type 0
TextsStay = (file text : Bytes) (f : Fields) → experiment_says file ≡ Ok f → IsMigrated file text → length text ≤ file_limit → IsMigrated text text
