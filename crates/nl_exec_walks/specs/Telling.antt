-- What a call tells of a word's inputs, and the state that it leaves, as the meaning of texts has them.
use Rattle.std.specs.Prelude.{◌≡◌, ⊤, ℕ, Result, Ok, Err}
use Rattle.nl_fixed.specs.Nouns.{Names}
use Rattle.nl_fixed.specs.declared.span.Span.{Span}
use Rattle.nl_agents.specs.declared.store.Store.{Ghosts}
use Rattle.nl_exec_acts.specs.declared.fail.ActFail.{ActFail}
use Rattle.nl_exec_acts.specs.declared.fail.ActFail.TheVariants.{Error, NoMemory}
use Rattle.nl_exec_meaning.specs.State.{State, Outcome, fails}
use Rattle.nl_exec_meaning.specs.Seen.{state_of}
use Rattle.nl_exec_meaning.specs.declared.hands.Hands.{Hands}

-- The meaning goes on with what the call gives, in the state that it leaves, or has its error there. Nothing is said where memory is wanted.
abbrev pub Tells : {S : Type 0} {G : Ghosts S} {X Y : Type 0} → (X → Y) → Result X ActFail → (after before : Hands S G)
    → (Span → State → (Y → State → Outcome) → Outcome) → Type 0
Tells {Y = Y} seen (Ok x) after before meaning = (names : Names) (units : ℕ) (place : Span) (next : Y → State → Outcome) →
    meaning place (state_of names before units) next ≡ next (seen x) (state_of names after units)
Tells {Y = Y} seen (Err (Error kind)) after before meaning = (names : Names) (units : ℕ) (place : Span) (next : Y → State → Outcome) →
    meaning place (state_of names before units) next ≡ fails kind place (state_of names after units)
Tells seen (Err NoMemory) after before meaning = ⊤
