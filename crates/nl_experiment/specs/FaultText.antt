-- What is told of a fault of an experiment.
use Rattle.std.specs.Prelude.{[], ◌++◌, codes, Option, Some, None}
use Rattle.std.specs.Fmt.{decimal}
use Rattle.nl_fixed.specs.Nouns.{Bytes}
use Rattle.nl_check_model.specs.declared.lone_faults.Inner.{Inner}
use Rattle.nl_check_model.specs.declared.lone_faults.InnerKind.{InnerKind}
use Rattle.nl_experiment_keys.specs.declared.faults.PlanKind.{PlanKind}
use Rattle.nl_experiment.specs.declared.faults.PlanFault.{PlanFault}

-- the word of a kind
abbrev pub plan_kind_text : PlanKind → Bytes
plan_kind_text PlanKind.TooLong = codes "TooLong"
plan_kind_text PlanKind.NotToml = codes "NotToml"
plan_kind_text PlanKind.MissingKey = codes "MissingKey"
plan_kind_text PlanKind.WrongKind = codes "WrongKind"
plan_kind_text PlanKind.FloatValue = codes "FloatValue"
plan_kind_text PlanKind.BadLiteral = codes "BadLiteral"
plan_kind_text PlanKind.UnknownKey = codes "UnknownKey"
plan_kind_text PlanKind.TooManyRuns = codes "TooManyRuns"
plan_kind_text PlanKind.BadWorld = codes "BadWorld"
plan_kind_text PlanKind.BadText = codes "BadText"
plan_kind_text PlanKind.NoSuchRun = codes "NoSuchRun"

-- the word of a kind of a text's own fault
abbrev pub inner_kind_text : InnerKind → Bytes
inner_kind_text InnerKind.TooLong = codes "TooLong"
inner_kind_text InnerKind.NotText = codes "NotText"
inner_kind_text InnerKind.BadChar = codes "BadChar"
inner_kind_text InnerKind.OpenText = codes "OpenText"
inner_kind_text InnerKind.BadEscape = codes "BadEscape"
inner_kind_text InnerKind.BadNumber = codes "BadNumber"
inner_kind_text InnerKind.UnknownName = codes "UnknownName"
inner_kind_text InnerKind.Unexpected = codes "Unexpected"
inner_kind_text InnerKind.TooDeep = codes "TooDeep"
inner_kind_text InnerKind.WrongContext = codes "WrongContext"
inner_kind_text InnerKind.NotSettable = codes "NotSettable"
inner_kind_text InnerKind.NoReport = codes "NoReport"

-- a fault of the whole file stands at no key
abbrev pub key_text : PlanKind → Bytes → Bytes
key_text PlanKind.TooLong key = []
key_text PlanKind.NotToml key = []
key_text other key = key ++ codes ": "

-- where a text has its own fault: its kind, its line and its column
abbrev pub inner_text : Option Inner → Bytes
inner_text None = []
inner_text (Some inner) = codes " " ++ (inner_kind_text inner.kind ++ (codes " " ++ (decimal inner.line ++ (codes ":" ++ decimal inner.column))))

-- `KEY: KIND`, `KEY: BadText KIND L:C`, and `KIND` for a fault of the whole file
abbrev pub plan_text : PlanFault → Bytes
plan_text fault = key_text fault.kind fault.key ++ plan_kind_text fault.kind ++ inner_text fault.inner
