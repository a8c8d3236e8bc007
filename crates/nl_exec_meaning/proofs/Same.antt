-- Two continuations that agree where they are used give the same outcome.
use Rattle.std.proofs.Common.{◌≡◌, ℕ, zero, suc, Bool, true, false, Option, Some, None, refl}
use Rattle.nl_fixed.specs.declared.span.Span.{Span}
use Rattle.nl_value.specs.Plain.{Plain, PlainNumber, PlainTruth, PlainWords, PlainItems, PlainTurtle, PlainPatch, PlainLink, PlainNobody, PlainSet}
use Rattle.nl_exec_acts.specs.declared.fail.ErrorKind.{ErrorKind}
use Rattle.nl_exec_meaning.specs.State.{State, Exit, Outcome, Gives, Stopped, Reported, Left, Budget, Error, found, next_by, spend_by, with_truth, choose}

pub found-same : {X : Type 0} (o : Option X) (kind : ErrorKind) (place : Span) (s : State) (f g : X → Outcome) → ((x : X) → f x ≡ g x) →
    found o kind place s f ≡ found o kind place s g
found-same None kind place s f g same = refl
found-same (Some x) kind place s f g same = same x

pub next-same : (e : Exit) (s : State) (f g : Plain → State → Outcome) → ((value : Plain) → f value s ≡ g value s) → next_by e s f ≡ next_by e s g
next-same (Gives value) s f g same = same value
next-same Stopped s f g same = refl
next-same (Reported value) s f g same = refl
next-same Left s f g same = refl
next-same Budget s f g same = refl
next-same (Error kind place body) s f g same = refl

pub spend-same : (units : ℕ) (s : State) (f g : State → Outcome) →
    ((left : ℕ) → units ≡ suc left → f (record s { units = left }) ≡ g (record s { units = left })) → spend_by units s f ≡ spend_by units s g
spend-same zero s f g same = refl
spend-same (suc left) s f g same = same left refl

pub truth-same : (value : Plain) (place : Span) (s : State) (f g : Bool → Outcome) → ((truth : Bool) → f truth ≡ g truth) →
    with_truth value place s f ≡ with_truth value place s g
truth-same (PlainTruth truth) place s f g same = same truth
truth-same (PlainNumber count) place s f g same = refl
truth-same (PlainWords bytes) place s f g same = refl
truth-same (PlainItems items) place s f g same = refl
truth-same (PlainTurtle turtle) place s f g same = refl
truth-same (PlainPatch patch) place s f g same = refl
truth-same (PlainLink link) place s f g same = refl
truth-same PlainNobody place s f g same = refl
truth-same (PlainSet set) place s f g same = refl

pub choose-same : (truth : Bool) (a b c d : Outcome) → a ≡ c → b ≡ d → choose truth a b ≡ choose truth c d
choose-same true a b c d first second = first
choose-same false a b c d first second = second
