-- The rows that a run gives.
use Rattle.std.specs.Prelude.{ℕ, Bool, true, false, ◌==◌, List, [], ◌∷◌, ◌++◌, codes, Some, None}
use Rattle.std.specs.Fmt.{decimal}
use Rattle.nl_fixed.specs.Nouns.{Bytes, Texts}
use Rattle.nl_exec_acts.specs.declared.fail.ErrorKind.{ErrorKind}
use Rattle.nl_exec_acts.specs.declared.fail.ErrorKind.TheVariants as kind
use Rattle.nl_run.specs.Job.{Job}
use Rattle.nl_run.specs.declared.rows.Row.{Row}
use Rattle.nl_run.specs.declared.rows.RunEnd.{RunEnd}
use Rattle.nl_run.specs.declared.rows.RunEnd.TheVariants as end_

-- a row that measures: the texts of the metrics at a count of steps
abbrev pub measure : Job → ℕ → Texts → Row
measure j step cells = record { number = j.number; settings = j.settings; step = step; cells = Some cells; end = end_.Open }

-- a row that only ends
abbrev pub further : Job → ℕ → RunEnd → Row
further j step how = record { number = j.number; settings = j.settings; step = step; cells = None; end = how }

abbrev pub ended : RunEnd → Row → Row
ended how r = record r { end = how }

-- a row carries the end of the one behind it, if that is of the same count of steps
abbrev pub with_end : Bool → Row → Row → List Row
with_end true last r = ended last.end r ∷ []
with_end false last r = r ∷ last ∷ []

-- These rows, and behind them one that only ends: where the last of them is of the same count of steps, that one carries the end, and there is
-- no further row.
abbrev pub closing : Row → List Row → List Row
closing last [] = last ∷ []
closing last (r ∷ []) = with_end (r.step == last.step) last r
closing last (r ∷ s ∷ rs) = r ∷ closing last (s ∷ rs)

-- The rows of a run that has measured these and ends so. A regular end stands in the row that measured at the present count of steps, if there
-- is one. A spent budget, and an error, stand in a row of their own.
abbrev pub closed_by : Job → ℕ → RunEnd → List Row → List Row
closed_by j step end_.Open rows = rows
closed_by j step end_.Steps rows = closing (further j step end_.Steps) rows
closed_by j step end_.Condition rows = closing (further j step end_.Condition) rows
closed_by j step end_.Stop rows = closing (further j step end_.Stop) rows
closed_by j step end_.Budget rows = rows ++ further j step end_.Budget ∷ []
closed_by j step (end_.Error text) rows = rows ++ further j step (end_.Error text) ∷ []

-- ---- texts of ends

-- what the column of ends says
abbrev pub end_text : RunEnd → Bytes
end_text end_.Open = []
end_text end_.Steps = codes "steps"
end_text end_.Condition = codes "condition"
end_text end_.Stop = codes "stop"
end_text end_.Budget = codes "budget"
end_text (end_.Error text) = text

abbrev pub kind_name : ErrorKind → Bytes
kind_name kind.WrongType = codes "WrongType"
kind_name kind.Overflow = codes "Overflow"
kind_name kind.ZeroDivide = codes "ZeroDivide"
kind_name kind.Domain = codes "Domain"
kind_name kind.NoAgent = codes "NoAgent"
kind_name kind.NoVariable = codes "NoVariable"
kind_name kind.WrongContext = codes "WrongContext"
kind_name kind.OutOfList = codes "OutOfList"
kind_name kind.OutOfWorld = codes "OutOfWorld"
kind_name kind.SamePoint = codes "SamePoint"
kind_name kind.TicksOff = codes "TicksOff"
kind_name kind.TooFew = codes "TooFew"
kind_name kind.LinkFault = codes "LinkFault"
kind_name kind.TooLarge = codes "TooLarge"
kind_name kind.TooMany = codes "TooMany"
kind_name kind.TooNested = codes "TooNested"
kind_name kind.NoReport = codes "NoReport"

-- an error: its kind, and where it stands, in the model's code or in a text of the experiment, by line and column there
abbrev pub error_text : ErrorKind → Bytes → ℕ × ℕ → Bytes
error_text why place at =
    codes "error " ++ kind_name why ++ codes " " ++ place ++ codes ":" ++ decimal at.0 ++ codes ":" ++ decimal at.1
