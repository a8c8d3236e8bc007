-- What the file of a model says beside the widgets of an experiment: a checked program, or its first fault.
--
-- Of the program a verdict tells what is declared and the trees of the bodies. The index of its words and the kinds that may run its bodies
-- follow from these.
use Rattle.std.specs.Prelude.{◌≡◌, ℕ, List, Bool, true, false, nat_lt, length, Result, Ok, Err}
use Rattle.nl_fixed.specs.Nouns.{Bytes, Names}
use Rattle.nl_scan.specs.declared.token.ScanKind.{ScanKind}
use Rattle.nl_scan.specs.declared.token.Token.{Token}
use Rattle.nl_scan.specs.CodePart.{code_of}
use Rattle.nl_scan.specs.Faults.{ScanFault}
use Rattle.nl_scan.specs.Place.{line_and_column}
use Rattle.nl_scan.specs.Tokens.{text_limit, tokens_of}
use Rattle.nl_tree.specs.Checked.{Checked}
use Rattle.nl_check_model.specs.declared.faults.ModelFault.{ModelFault}
use Rattle.nl_check_model.specs.declared.faults.ModelKind.{ModelKind}
use Rattle.nl_check_model.specs.declared.faults.ModelRefusal.{ModelRefusal}
use Rattle.nl_check_model.specs.ModelFault.{IsAccepted, IsCodeFault}

-- a program, or a fault
abbrev pub Verdict : Type 0
Verdict = Result Checked ModelFault

-- a fault with its line and its column
abbrev pub fault_at : Bytes → ModelKind → ℕ → ModelFault
fault_at text kind place = let at = line_and_column text place in record { kind = kind; line = at.0; column = at.1 }

-- what code says that has tokens
abbrev pub TokensSay : Names → Bytes → List Token → Verdict → Type 0
TokensSay widgets code tokens (Ok p) = IsAccepted widgets code tokens p
TokensSay widgets code tokens (Err fault) =
    (kind : ModelKind) × (place : ℕ) × (IsCodeFault widgets code tokens kind place × (fault ≡ fault_at code kind place))

-- what code says by its tokens, or by its fault where it has none
abbrev pub ScannedSay : Names → Bytes → Result (List Token) ScanFault → Verdict → Type 0
ScannedSay widgets code (Ok tokens) verdict = TokensSay widgets code tokens verdict
ScannedSay widgets code (Err fault) verdict = verdict ≡ Err (fault_at code (ModelKind.Scan fault.kind) fault.place)

-- what code says
abbrev pub CodeSays : Names → Bytes → Verdict → Type 0
CodeSays widgets code verdict = ScannedSay widgets code (tokens_of code) verdict

-- too long a file is told at its first byte past the limit, and else its code says it
abbrev pub FileSays : ℕ → Bool → Names → Bytes → Verdict → Type 0
FileSays limit true widgets file verdict = verdict ≡ Err (fault_at file (ModelKind.Scan ScanKind.TooLong) limit)
FileSays limit false widgets file verdict = CodeSays widgets (code_of file) verdict

-- what a model's file says
unfoldable pub IsVerdict : Names → Bytes → Verdict → Type 0
IsVerdict widgets file verdict = FileSays text_limit (nat_lt text_limit (length file)) widgets file verdict

-- a call gives what is said, or wants memory
abbrev pub ModelGives : (Verdict → Type 0) → Result Checked ModelRefusal → Type 0
ModelGives Says (Ok p) = Says (Ok p)
ModelGives Says (Err (ModelRefusal.Fault fault)) = Says (Err fault)
ModelGives Says (Err ModelRefusal.NoMemory) = Unit {0}
