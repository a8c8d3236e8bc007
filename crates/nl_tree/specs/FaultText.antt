-- The words by which faults are told.
use Rattle.std.specs.Prelude.{codes}
use Rattle.nl_fixed.specs.Nouns.{Bytes}
use Rattle.nl_tree.specs.declared.faults.BodyKind.{BodyKind}
use Rattle.nl_tree.specs.declared.faults.CheckKind.{CheckKind}

abbrev pub body_kind_text : BodyKind → Bytes
body_kind_text BodyKind.UnknownName = codes "UnknownName"
body_kind_text BodyKind.Unexpected = codes "Unexpected"
body_kind_text BodyKind.TooDeep = codes "TooDeep"

abbrev pub check_kind_text : CheckKind → Bytes
check_kind_text CheckKind.WrongContext = codes "WrongContext"
check_kind_text CheckKind.NotSettable = codes "NotSettable"
check_kind_text CheckKind.NoReport = codes "NoReport"
