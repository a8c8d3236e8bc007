-- The words of faults.
use Rattle.nl_fixed.specs.Nouns.{Bytes}
use Rattle.nl_scan.specs.Faults.{scan_kind_text}
use Rattle.nl_tree.specs.FaultText.{body_kind_text, check_kind_text}
use Rattle.nl_decl.specs.FaultText.{decl_kind_text}
use Rattle.nl_check_model.specs.declared.faults.ModelKind.{ModelKind}

-- the word of a kind, which is that of the stage that tells it
abbrev pub model_kind_text : ModelKind → Bytes
model_kind_text (ModelKind.Scan kind) = scan_kind_text kind
model_kind_text (ModelKind.Declaration kind) = decl_kind_text kind
model_kind_text (ModelKind.Body kind) = body_kind_text kind
model_kind_text (ModelKind.Check kind) = check_kind_text kind
