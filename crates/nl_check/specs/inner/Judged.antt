-- What is known of a model and its bodies while these are checked, and what the check of bodies answers.
use Rattle.std.specs.Prelude.{◌≡◌, ℕ, ◌+◌, List, Option, Some, None, Result, Ok, Err, MatchResult, length, slice_get}
use Rattle.nl_words.specs.declared.entry.Kinds.{Kinds}
use Rattle.nl_words.specs.Kinds.{everyone}
use Rattle.nl_tree.specs.declared.declared.Declared.{Declared}
use Rattle.nl_tree.specs.declared.declared.Procedure.{Procedure}
use Rattle.nl_tree.specs.Names.{IsDeclared}
use Rattle.nl_tree.specs.Tree.{Node}
use Rattle.nl_tree.specs.Vocabulary.{terms}
use Rattle.nl_tree.specs.Context.{uses, IsFirstFault, IsRightBody}
use Rattle.nl_tree.specs.Checked.{BodiesAreRight, KindsAreLeft}
use Rattle.nl_check.specs.declared.refusal.CheckRefusal.{CheckRefusal}
use Rattle.nl_check.specs.declared.refusal.CheckRefusal.TheVariants as refusal
use Rattle.nl_check.specs.declared.faults.Wrong.{Wrong}
use Rattle.nl_check.specs.Answers.{IsModelRefusal}

-- the declarations of a model with one body a procedure, and with one entry of kinds a body: those that are left at its last word
pub record IsKindsOf (d : Declared) (bodies : List Node) (ks : List Kinds) : Type 0 where
  pub names : IsDeclared d
  pub bodies_many : length bodies ≡ length d.procedures
  pub kinds_many : length ks ≡ length bodies
  pub left : KindsAreLeft d bodies ks

-- the body at this place is right
abbrev pub IsRightAt : Declared → List Node → ℕ → Type 0
IsRightAt d bodies i = (p : Procedure) (t : Node) → slice_get d.procedures i ≡ Some p → slice_get bodies i ≡ Some t → IsRightBody (terms d) bodies p.reporter t

-- a fault is the first one of the body at this place
abbrev pub IsBodyFault : Declared → List Node → ℕ → CheckRefusal → Type 0
IsBodyFault d bodies i refusal.NoMemory = Unit {0}
IsBodyFault d bodies i (refusal.Fault kind body span) =
    (body ≡ i + 1)
    × ((p : Procedure) × (t : Node)
    × ((slice_get d.procedures i ≡ Some p) × (slice_get bodies i ≡ Some t) × IsFirstFault (terms d) bodies p.reporter (uses (terms d) everyone t) kind span))

-- the body at this place is right, or its first fault is told
abbrev pub IsJudged : Declared → List Node → ℕ → Result (Unit {0}) CheckRefusal → Type 0
IsJudged d bodies i r = MatchResult r (λ _. IsRightAt d bodies i) (IsBodyFault d bodies i)

-- all bodies are right, or their first fault is told
abbrev pub AreJudged : Declared → List Node → Result (Unit {0}) CheckRefusal → Type 0
AreJudged d bodies r = MatchResult r (λ _. BodiesAreRight d bodies) (IsModelRefusal d bodies)

-- the answer for a fault that was found, or none
abbrev pub answered : ℕ → Option Wrong → Result (Unit {0}) CheckRefusal
answered body None = Ok tt
answered body (Some w) = Err (refusal.Fault w.kind body w.span)
