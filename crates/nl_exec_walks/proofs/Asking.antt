-- Who is asked where it is no set, and what a call tells of another meaning that is the same.
use Rattle.std.proofs.Common.{◌≡◌, Bool, Some, None, Result, Ok, Err, refl, ◌∙◌}
use Rattle.nl_fixed.specs.declared.span.Span.{Span}
use Rattle.std.specs.Result.{result_ok}
use Rattle.nl_value.specs.Plain.{Plain, PlainNumber, PlainTruth, PlainWords, PlainItems, PlainTurtle, PlainPatch, PlainLink, PlainNobody, PlainSet}
use Rattle.nl_value.specs.declared.sets.AgentSet.{AgentSet}
use Rattle.nl_agents.specs.declared.store.Store.{Ghosts}
use Rattle.nl_exec_acts.specs.declared.fail.ActFail.{ActFail}
use Rattle.nl_exec_acts.specs.declared.fail.ActFail.TheVariants.{Error, NoMemory}
use Rattle.nl_exec_meaning.specs.State.{State, Outcome}
use Rattle.nl_exec_meaning.specs.Walks as walks
use Rattle.nl_exec_meaning.specs.Walks.{set_in}
use Rattle.nl_exec_meaning.specs.Seen.{state_of}
use Rattle.nl_exec_meaning.specs.declared.hands.Hands.{Hands}
use Rattle.nl_exec_walks.specs.Groups.{asking, asking_one}
use Rattle.nl_exec_walks.specs.Telling.{Tells}

pub is_set : (value : Plain) (set : AgentSet) → result_ok (set_in value) ≡ Some set → value ≡ PlainSet set
is_set (PlainSet other) set is = cc
is_set (PlainNumber count) set is = cc
is_set (PlainTruth truth) set is = cc
is_set (PlainWords words) set is = cc
is_set (PlainItems items) set is = cc
is_set (PlainTurtle turtle) set is = cc
is_set (PlainPatch patch) set is = cc
is_set (PlainLink link) set is = cc
is_set PlainNobody set is = cc

pub no_set : (value : Plain) → result_ok (set_in value) ≡ None → (place : Span) (s : State) (next : Bool × walks.Group → State → Outcome) →
    asking value place s next ≡ asking_one value place s next
no_set (PlainSet set) other place s next = cc
no_set (PlainNumber count) other place s next = refl
no_set (PlainTruth truth) other place s next = refl
no_set (PlainWords words) other place s next = refl
no_set (PlainItems items) other place s next = refl
no_set (PlainTurtle turtle) other place s next = refl
no_set (PlainPatch patch) other place s next = refl
no_set (PlainLink link) other place s next = refl
no_set PlainNobody other place s next = refl

pub tells_too : {S : Type 0} {G : Ghosts S} {X Y : Type 0} (seen : X → Y) (result : Result X ActFail) (after before : Hands S G)
    (meaning other : Span → State → (Y → State → Outcome) → Outcome) →
    ((place : Span) (s : State) (next : Y → State → Outcome) → other place s next ≡ meaning place s next) →
    Tells seen result after before meaning → Tells seen result after before other
tells_too seen (Ok x) after before meaning other same told = λ names units place next. same place (state_of names before units) next ∙ told names units place next
tells_too seen (Err (Error kind)) after before meaning other same told = λ names units place next. same place (state_of names before units) next ∙ told names units place next
tells_too seen (Err NoMemory) after before meaning other same told = tt
