-- What a step of the machine owes: that what comes next is what the case means.
use Rattle.std.specs.Prelude.{◌≡◌, ℕ, Option, Some, None}
use Rattle.nl_agents.specs.declared.store.Store.{Ghosts}
use Rattle.nl_exec_meaning.specs.Code.{Code}
use Rattle.nl_exec_meaning.specs.State.{State, Outcome, Eval}
use Rattle.nl_exec_meaning.specs.Laws.{Thrifty}
use Rattle.nl_exec_meaning.specs.Seen.{state_of, ended, ground}
use Rattle.nl_exec_meaning.specs.Frames.{going}
use Rattle.nl_exec_meaning.specs.Standing.{HandsFit}
use Rattle.nl_exec_meaning.specs.declared.exits.Exit.{Exit}
use Rattle.nl_exec_meaning.specs.declared.hands.Hands.{Hands}
use Rattle.nl_exec_meaning.specs.declared.frames.Next.{Next}

-- What is next, from the hands as they are now, is this meaning from the hands as they were: whatever the children mean, as long as they
-- give no units back.
abbrev pub Means : {S : Type 0} {G : Ghosts S} → Code → Next → (after before : Hands S G) → (Eval → State → Outcome) → Type 0
Means c next after before meaning =
    (prev : Eval) (units : ℕ) → Thrifty prev → going c prev next (state_of c.names after units) ≡ meaning prev (state_of c.names before units)

-- the same of a case that has ended
abbrev pub EndsAs : {S : Type 0} {G : Ghosts S} → Code → Exit → (after before : Hands S G) → (State → Outcome) → Type 0
EndsAs c exit after before meaning =
    (units : ℕ) → ended exit (state_of c.names after units) ≡ meaning (state_of c.names before units)

-- what is held still fits the world, whose shape and layout stay
pub record Stands {S : Type 0} {G : Ghosts S} (after before : Hands S G) : Type 0 where
  pub fit : HandsFit after
  pub same : ground after ≡ ground before

-- how it ends where something stands in the way, and else what comes
abbrev pub unless_ended : Option Exit → State → Outcome → Outcome
unless_ended None s o = o
unless_ended (Some exit) s o = ended exit s
