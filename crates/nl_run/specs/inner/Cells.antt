-- What the small calls of a run give.
use Rattle.std.specs.Prelude.{◌≡◌, ◌≤◌, ◌<◌, ⊤, Bool, IsTrue, Option, Some, None, Result, Ok, Err, length}
use Rattle.nl_fixed.specs.Nouns.{Bytes}
use Rattle.nl_value.specs.Limits.{most_bytes}
use Rattle.nl_value.specs.Plain.{Plain, PlainTruth}
use Rattle.nl_value.specs.Views.{plain}
use Rattle.nl_value.specs.declared.values.Value.{Value}
use Rattle.nl_exec_acts.specs.declared.fail.ErrorKind.TheVariants.{WrongType}
use Rattle.nl_exec_meaning.specs.Ground.{Ground, fits}
use Rattle.nl_run.specs.Course.{Finish, Standing, ends_as, fails_at_first}
use Rattle.nl_run.specs.Job.{Job, Lone}
use Rattle.nl_run.specs.declared.rows.RunEnd.{RunEnd}

-- a cell is a text that isn't too large
abbrev pub CellOf : Bytes → Option Bytes → Type 0
CellOf whole (Some cell) = (cell ≡ whole) × (length whole ≤ most_bytes)
CellOf whole None = most_bytes < length whole

-- what goes on, or how the run ends
abbrev pub goes_or_ends : Result Bool RunEnd → Standing → (Bool → Standing → Finish) → Finish
goes_or_ends (Ok stopped) s next = next stopped s
goes_or_ends (Err how) s next = ends_as how s

abbrev pub value_or_ends : Result Value RunEnd → Standing → (Plain → Standing → Finish) → Finish
value_or_ends (Ok value) s next = next (plain value) s
value_or_ends (Err how) s next = ends_as how s

abbrev pub GivesValue : Ground → Result Value RunEnd → Type 0
GivesValue g (Ok value) = IsTrue (fits g (plain value))
GivesValue g (Err how) = ⊤

-- ---- the value of a condition

abbrev pub truth_in : Plain → Option Bool
truth_in (PlainTruth truth) = Some truth
truth_in other = None

abbrev pub truth_or : Option Bool → Job → Bytes → Lone → Standing → (Bool → Standing → Finish) → Finish
truth_or (Some truth) j called l s next = next truth s
truth_or None j called l s next = fails_at_first j called l WrongType s
