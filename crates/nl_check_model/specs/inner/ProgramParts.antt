-- What the parts of the reading of a program say where they refuse it.
use Rattle.std.specs.Prelude.{◌≡◌, ℕ, List, Err}
use Rattle.nl_fixed.specs.Nouns.{Bytes, Names}
use Rattle.nl_fixed.specs.declared.span.Span.{Span}
use Rattle.nl_scan.specs.declared.token.Token.{Token}
use Rattle.nl_tree.specs.declared.declared.Declared.{Declared}
use Rattle.nl_tree.specs.declared.declared.Procedure.{Procedure}
use Rattle.nl_tree.specs.declared.faults.BodyKind.{BodyKind}
use Rattle.nl_tree.specs.declared.faults.CheckKind.{CheckKind}
use Rattle.nl_tree.specs.Checked.{IsModelFault}
use Rattle.nl_tree.specs.Term.{Term}
use Rattle.nl_tree.specs.Tree.{Node}
use Rattle.nl_check_model.specs.declared.faults.ModelKind.{ModelKind}
use Rattle.nl_check_model.specs.declared.faults.ModelRefusal.{ModelRefusal}
use Rattle.nl_check_model.specs.ModelFault.{IsFaultOfBodies, IsFaultOfBody}
use Rattle.nl_check_model.specs.Verdict.{ModelGives, TokensSay, fault_at}

-- that the code says this, or that memory is wanted
abbrev pub IsCodeRefusal : Names → Bytes → List Token → ModelRefusal → Type 0
IsCodeRefusal widgets text tokens refusal = ModelGives (TokensSay widgets text tokens) (Err refusal)

-- that of the body of a procedure
abbrev pub IsBodyRefusal : Bytes → List Token → List Term → Procedure → ModelRefusal → Type 0
IsBodyRefusal text tokens table p (ModelRefusal.Fault fault) =
    (kind : BodyKind) × (place : ℕ) × (IsFaultOfBody text tokens table p kind place × (fault ≡ fault_at text (ModelKind.Body kind) place))
IsBodyRefusal text tokens table p ModelRefusal.NoMemory = Unit {0}

-- that of the bodies of these procedures
abbrev pub IsBodiesRefusal : Bytes → List Token → List Term → List Procedure → ModelRefusal → Type 0
IsBodiesRefusal text tokens table ps (ModelRefusal.Fault fault) =
    (kind : BodyKind) × (place : ℕ) × (IsFaultOfBodies text tokens table ps kind place × (fault ≡ fault_at text (ModelKind.Body kind) place))
IsBodiesRefusal text tokens table ps ModelRefusal.NoMemory = Unit {0}

-- that of who may run the bodies
abbrev pub IsCheckRefusal : Bytes → Declared → List Node → ModelRefusal → Type 0
IsCheckRefusal text d bodies (ModelRefusal.Fault fault) =
    (kind : CheckKind) × (i : ℕ) × (span : Span) × (IsModelFault d bodies i kind span × (fault ≡ fault_at text (ModelKind.Check kind) span.start))
IsCheckRefusal text d bodies ModelRefusal.NoMemory = Unit {0}
