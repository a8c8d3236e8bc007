-- Each frame goes on from what is whole or cut to what is whole or cut.
use Rattle.std.proofs.Common.{ℕ, ◌≤◌, Bool, true, false, List, [], ◌∷◌, refl}
use Rattle.nl_fixed.specs.declared.span.Span.{Span}
use Rattle.nl_value.specs.Plain.{Plain}
use Rattle.nl_value.specs.declared.sets.AgentKind.{AgentKind}
use Rattle.nl_tree.specs.Tree.{Node}
use Rattle.nl_tree.specs.Checked.{Checked}
use Rattle.nl_exec_meaning.specs.declared.words.Built.TheVariants as built
use Rattle.nl_exec_meaning.specs.declared.words.Arrow.{Arrow}
use Rattle.nl_exec_meaning.specs.declared.words.Arrow.TheVariants as arrow
use Rattle.nl_exec_meaning.specs.declared.words.Over.TheVariants as over
use Rattle.nl_exec_meaning.specs.declared.frames.Frame.{Frame}
use Rattle.nl_exec_meaning.specs.declared.frames.Frame.TheVariants as frame
use Rattle.nl_exec_meaning.specs.declared.turns.Gathered.{Gathered}
use Rattle.nl_exec_meaning.specs.declared.turns.Gathered.TheVariants as gathered
use Rattle.nl_exec_meaning.specs.declared.rounds.Rounds.{Rounds}
use Rattle.nl_exec_meaning.specs.Cases.{Case}
use Rattle.nl_exec_meaning.specs.Cases as case
use Rattle.nl_exec_meaning.specs.Code.{Code}
use Rattle.nl_exec_meaning.specs.State.{State, Outcome, Eval}
use Rattle.nl_exec_meaning.specs.Walks.{Answer as Told, value_of_one}
use Rattle.nl_exec_meaning.specs.Rounds.{begun, turns_left}
use Rattle.nl_exec_meaning.specs.Frames.{parts_done, finished, none_chosen, resumed}
use Rattle.nl_exec_units.proofs.Beside.{Beside, whole, Good, richer, steadies}
use Rattle.nl_exec_units.proofs.Looping.{while-beside, loop-beside}
use Rattle.nl_exec_units.proofs.Running.{assign-beside, steps-beside, made_of-beside, values-beside, statements-beside, text_statements-beside, choice-beside, all-beside, turns-beside, walk-beside, collect-beside, new-beside, reduced-beside}

-- ---- what is made of all answers

one_left-beside : {k : ℕ} (made : List Told) (place : Span) (n : ℕ) (s : State) → s.units ≤ n →
    Beside k n (value_of_one made place s) (value_of_one made place (richer k s))
one_left-beside [] place n s few = whole refl few
one_left-beside (a ∷ others) place n s few = whole refl few

finished-beside : {k : ℕ} (what : Gathered) (which : AgentKind) (place : Span) (made : List Told) (n : ℕ) (s : State) → s.units ≤ n →
    Beside k n (finished what which place made s) (finished what which place made (richer k s))
finished-beside (gathered.OfSet over.With) which place made n s few = search steadies
finished-beside (gathered.OfSet word) which place made n s few = search steadies
finished-beside (gathered.Several up number) which place made n s few = search steadies
finished-beside (gathered.OfAll true) which place made n s few = search steadies
finished-beside (gathered.OfAll false) which place made n s few = one_left-beside made place n s few

none-beside : {k : ℕ} (valued : Bool) (place : Span) (n : ℕ) (s : State) → s.units ≤ n →
    Beside k n (none_chosen valued place s) (none_chosen valued place (richer k s))
none-beside true place n s few = whole refl few
none-beside false place n s few = whole refl few

ruleset walks = (steadies, all-beside, assign-beside, steps-beside, values-beside, statements-beside, text_statements-beside, turns-beside, walk-beside, collect-beside, made_of-beside, new-beside, finished-beside, while-beside, loop-beside)

module _ (k : ℕ) (prev : Eval) (good : (t : Node) → Good k (prev t)) where
  -- ---- parts

  done-beside : (which : Case) (p : Checked) (t : Node) (made : List Plain) (n : ℕ) (s : State) → s.units ≤ n →
      Beside k n (parts_done p which prev t made s) (parts_done p which prev t made (richer k s))
  done-beside (case.Word runs breed (built.Act act)) p t made n s few = search walks depth 14
  done-beside which p t made n s few = search walks depth 14

  -- ---- words with arrow blocks

  begun-beside : (word : Arrow) (t : Node) (made : List Plain) (n : ℕ) (s : State) → s.units ≤ n →
      Beside k n (begun word prev t made s) (begun word prev t made (richer k s))
  begun-beside arrow.Reduce t made n s few = search (walks, reduced-beside) depth 14
  begun-beside word t made n s few = search walks depth 14

  left-beside : (word : Arrow) (t : Node) (index : ℕ) (r : Rounds) (n : ℕ) (s : State) → s.units ≤ n →
      Beside k n (turns_left word prev t index r s) (turns_left word prev t index r (richer k s))
  left-beside arrow.ForEach t index r n s few = search walks depth 14
  left-beside word t index r n s few = search walks depth 14

  -- ---- frames

  ruleset parts = (walks, done-beside, begun-beside, left-beside)

  pub resumed-beside : (c : Code) (f : Frame) (n : ℕ) (o o1 : Outcome) → Beside k n o o1 → Beside k n (resumed c prev f o) (resumed c prev f o1)
  resumed-beside c (frame.Inside node) n o o1 first = first
  resumed-beside c (frame.EitherTest node at valued) n o o1 first = search (parts, choice-beside, none-beside {k = k} valued) depth 14
  resumed-beside c f n o o1 first = search parts depth 16
