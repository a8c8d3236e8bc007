-- Loops that end by their units. A turn is had with fewer units than the loop, so a loop is whole or cut by induction on the bound of its units.
use Rattle.std.proofs.Common.{◌≡◌, ℕ, zero, suc, ◌<◌, ◌≤◌, Bool, true, false, Option, Some, None, refl, sym, subst, arith, slice_get}
use Rattle.nl_fixed.specs.declared.span.Span.{Span}
use Rattle.nl_value.specs.Plain.{Plain, PlainNumber, PlainTruth, PlainWords, PlainItems, PlainTurtle, PlainPatch, PlainLink, PlainNobody, PlainSet}
use Rattle.nl_tree.specs.Tree.{Node, span, parts}
use Rattle.nl_exec_acts.specs.declared.fail.ErrorKind.{ErrorKind}
use Rattle.nl_exec_acts.specs.declared.fail.ErrorKind.TheVariants.{WrongType}
use Rattle.nl_exec_meaning.specs.State.{State, Exit, Outcome, Eval, Gives, Stopped, Reported, Left, Budget, Error, next_by, spend_by, choose, found, with_truth, goes_on}
use Rattle.nl_exec_meaning.specs.Blocks.{Step, turn, fuelled, unending, while_step, while_case, loop_step, loop_case}
use Rattle.nl_exec_meaning.specs.Laws.{Thrifty}
use Rattle.nl_exec_meaning.proofs.Loops.{while_unfolds, loop_unfolds}
use Rattle.nl_exec_units.proofs.Beside.{Beside, whole, Good, richer, still, few-left, bind-at, spend-at, found-beside, truth-beside, choose-beside}

-- ---- no units come back

-- goes on with no more than so many
abbrev Few : ℕ → (State → Outcome) → Type 0
Few k next = (s : State) → s.units ≤ k → (next s).state.units ≤ k

bind-few : (k : ℕ) (e : Exit) (s : State) (next : Plain → State → Outcome) → s.units ≤ k → ((value : Plain) → Few k (next value)) →
    (next_by e s next).state.units ≤ k
bind-few k (Gives value) s next few thrift = thrift value s few
bind-few k Stopped s next few thrift = few
bind-few k (Reported value) s next few thrift = few
bind-few k Left s next few thrift = few
bind-few k Budget s next few thrift = few
bind-few k (Error kind place body) s next few thrift = few

spend-few : (k units : ℕ) (s : State) (next : State → Outcome) → s.units ≡ units → s.units ≤ k → Few k next → (spend_by units s next).state.units ≤ k
spend-few k zero s next has few thrift = few
spend-few k (suc units) s next has few thrift = thrift (record s { units = units }) (omega (arith, has, few))

found-few : {X : Type 0} (k : ℕ) (o : Option X) (kind : ErrorKind) (place : Span) (s : State) (next : X → Outcome) → s.units ≤ k →
    ((x : X) → (next x).state.units ≤ k) → (found o kind place s next).state.units ≤ k
found-few k None kind place s next few thrift = few
found-few k (Some x) kind place s next few thrift = thrift x

truth-few : (k : ℕ) (value : Plain) (place : Span) (s : State) (next : Bool → Outcome) → s.units ≤ k → ((truth : Bool) → (next truth).state.units ≤ k) →
    (with_truth value place s next).state.units ≤ k
truth-few k (PlainTruth truth) place s next few thrift = thrift truth
truth-few k (PlainNumber count) place s next few thrift = few
truth-few k (PlainWords bytes) place s next few thrift = few
truth-few k (PlainItems items) place s next few thrift = few
truth-few k (PlainTurtle turtle) place s next few thrift = few
truth-few k (PlainPatch patch) place s next few thrift = few
truth-few k (PlainLink link) place s next few thrift = few
truth-few k PlainNobody place s next few thrift = few
truth-few k (PlainSet set) place s next few thrift = few

either-few : (k : ℕ) (truth : Bool) (a b : Outcome) → a.state.units ≤ k → b.state.units ≤ k → (choose truth a b).state.units ≤ k
either-few k true a b first second = first
either-few k false a b first second = second

fuelled-few : (k : ℕ) (step : Step) → ((again : State → Outcome) → Few k again → Few k (step again)) → (fuel : ℕ) → Few k (fuelled fuel step)
fuelled-few k step thrift zero s few = few
fuelled-few k step thrift (suc fuel) s few = thrift (fuelled fuel step) (fuelled-few k step thrift fuel) s few

module _ (k : ℕ) (prev : Eval) (good : (t : Node) → Good k (prev t)) where
  prev-few : (t : Node) → Few k (prev t)
  prev-few t s few = few-left (good t k s few)

  thrifty : Thrifty prev
  thrifty t s = few-left (good t s.units s (still s.units))

  turn-few : (t : Node) (index : ℕ) (again : State → Outcome) → Few k again → Few k (λ s. turn prev t index s again)
  turn-few t index again thrift s few =
      found-few k (slice_get (parts t) index) WrongType (span t) s _ few (λ block. spend-few k s.units s _ refl few (λ s1 fewer.
      bind-few k (prev block s1).exit (prev block s1).state _ (prev-few block s1 fewer) (λ value s2 least. thrift s2 least)))

  tested-few : (t : Node) (again : State → Outcome) → Few k again → (value : Plain) →
      Few k (λ s. with_truth value (span t) s (λ truth. choose truth (turn prev t 1 s again) (goes_on s)))
  tested-few t again thrift value s few =
      truth-few k value (span t) s _ few (λ truth. either-few k truth _ _ (turn-few t 1 again thrift s few) few)

  while_step-few : (t : Node) (again : State → Outcome) → Few k again → Few k (while_step prev t again)
  while_step-few t again thrift s few =
      found-few k (slice_get (parts t) 0) WrongType (span t) s _ few (λ test. spend-few k s.units s _ refl few (λ s1 fewer.
      bind-few k (prev test s1).exit (prev test s1).state _ (prev-few test s1 fewer) (tested-few t again thrift)))

  while-few : (t : Node) → Few k (while_case prev t)
  unfolding unending
  while-few t s few = fuelled-few k (while_step prev t) (while_step-few t) (suc s.units) s few

  loop-few : (t : Node) → Few k (loop_case prev t)
  unfolding unending
  loop-few t s few = fuelled-few k (loop_step prev t) (turn-few t 0) (suc s.units) s few

  -- ---- a turn, where what comes again is whole or cut with fewer units

  abbrev Below : ℕ → (State → Outcome) → Type 0
  Below n again = (m : ℕ) → m < n → (s : State) → s.units ≤ m → Beside k m (again s) (again (richer k s))

  turn-below : (n : ℕ) (t : Node) (index : ℕ) (again : State → Outcome) → Few k again → Below n again → (s : State) → s.units ≤ n →
      Beside k n (turn prev t index s again) (turn prev t index (richer k s) again)
  turn-below n t index again thrift below s few =
      found-beside (slice_get (parts t) index) WrongType (span t) s _ _ few (λ block. spend-at s.units s _ refl few
      (λ m less s1 fewer. bind-at _ (good block m s1 fewer) (λ value s2 least. below m less s2 least) (λ value s2 least. thrift s2 least))
      (λ s1 fewer. bind-few k (prev block s1).exit (prev block s1).state _ (prev-few block s1 fewer) (λ value s2 least. thrift s2 least)))

  tested-below : (n : ℕ) (t : Node) (again : State → Outcome) → Few k again → Below n again → (value : Plain) (s : State) → s.units ≤ n →
      Beside k n (with_truth value (span t) s (λ truth. choose truth (turn prev t 1 s again) (goes_on s)))
      (with_truth value (span t) (richer k s) (λ truth. choose truth (turn prev t 1 (richer k s) again) (goes_on (richer k s))))
  tested-below n t again thrift below value s few =
      truth-beside value (span t) s _ _ few (λ truth. choose-beside truth (turn-below n t 1 again thrift below s few) (whole refl few))

  while_step-below : (n : ℕ) (t : Node) (again : State → Outcome) → Few k again → Below n again → (s : State) → s.units ≤ n →
      Beside k n (while_step prev t again s) (while_step prev t again (richer k s))
  while_step-below n t again thrift below s few =
      found-beside (slice_get (parts t) 0) WrongType (span t) s _ _ few (λ test. spend-at s.units s _ refl few
      (λ m less s1 fewer. bind-at _ (good test m s1 fewer)
      (tested-below m t again thrift (λ j lesser. below j (omega (arith, less, lesser)))) (tested-few t again thrift))
      (λ s1 fewer. bind-few k (prev test s1).exit (prev test s1).state _ (prev-few test s1 fewer) (tested-few t again thrift)))

  -- ---- loops

  again-steady : (t : Node) (step : Step) (again : State → Outcome) → ((s : State) → again s ≡ step again s) →
      ((n : ℕ) → Below n again → (s : State) → s.units ≤ n → Beside k n (step again s) (step again (richer k s))) →
      (bound n : ℕ) → n < bound → (s : State) → s.units ≤ n → Beside k n (again s) (again (richer k s))
  again-steady t step again unfolds steady zero n less s few = absurd (omega (arith, less))
  again-steady t step again unfolds steady (suc bound) n less s few =
      let all : Beside k n (step again s) (step again (richer k s)) =
      steady n (λ m fewer. again-steady t step again unfolds steady bound m (omega (arith, less, fewer))) s few in
      subst (λ o. Beside k n o (again (richer k s))) (sym (unfolds s))
      (subst (λ o. Beside k n (step again s) o) (sym (unfolds (richer k s))) all)

  pub while-beside : (t : Node) → Good k (while_case prev t)
  while-beside t n s few =
      again-steady t (while_step prev t) (while_case prev t) (while_unfolds prev thrifty t)
      (λ m below. while_step-below m t (while_case prev t) (while-few t) below) (suc n) n (omega arith) s few

  pub loop-beside : (t : Node) → Good k (loop_case prev t)
  loop-beside t n s few =
      again-steady t (loop_step prev t) (loop_case prev t) (loop_unfolds prev thrifty t)
      (λ m below. turn-below m t 0 (loop_case prev t) (loop-few t) below) (suc n) n (omega arith) s few
