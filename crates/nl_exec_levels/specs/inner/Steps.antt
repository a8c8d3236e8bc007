-- What a step of the machine owes where it also puts on the stack what comes next.
use Rattle.std.specs.Prelude.{◌≡◌, ℕ, suc, ◌+◌, ◌-◌, ◌<◌, List, [], ◌∷◌, ◌++◌, Option, length}
use Rattle.nl_tree.specs.Tree.{span}
use Rattle.nl_agents.specs.declared.store.Store.{Ghosts}
use Rattle.nl_exec_meaning.specs.Code.{Code, node_at}
use Rattle.nl_exec_meaning.specs.State.{State, Outcome, Eval}
use Rattle.nl_exec_meaning.specs.Meaning.{evaluator, limited}
use Rattle.nl_exec_meaning.specs.Seen.{state_of}
use Rattle.nl_exec_meaning.specs.declared.frames.Frame.{Frame}
use Rattle.nl_exec_meaning.specs.declared.hands.Hands.{Hands}
use Rattle.nl_exec_at_once.specs.AtOnce.{block_left, far_by, inside_left}
use Rattle.nl_exec_at_once.specs.declared.statements.Inside.{Inside}
use Rattle.nl_exec_at_once.specs.declared.turns.Midway.{Midway}
use Rattle.nl_exec_levels.specs.declared.levels.Level.{Level}
use Rattle.nl_exec_levels.specs.declared.focus.Focus.{Focus}
use Rattle.nl_exec_levels.specs.Rest.{rest, through}

-- The rest is what this meaning of a node comes to through the levels below it, wherever there is room for the node.
abbrev pub ComesTo : {S : Type 0} {G : Ghosts S} → Code → List Level → ℕ → (Eval → State → Outcome) → List Level → Focus → (after before : Hands S G) → Type 0
ComesTo c below node meaning levels focus after before =
    (room n : ℕ) → length below < room →
    rest c room levels focus (state_of c.names after n)
    ≡ through c room below (limited (span (node_at c node))
    (meaning (evaluator c.program (room - suc (length below))) (state_of c.names before n)))

-- a level above others
abbrev pub above : List Level → ℕ → Frame → List Level
above levels node frame = levels ++ record { node = node; frame = frame } ∷ []

-- The rest from here, with so many units, is the rest from there, with so many.
abbrev pub GoesTo : {S : Type 0} {G : Ghosts S} → Code → ℕ → List Level → Focus → (after : Hands S G) → ℕ → List Level → Focus → (before : Hands S G) → ℕ → Type 0
GoesTo c limit levels at after left there start before units =
    (n : ℕ) → rest c limit levels at (state_of c.names after (left + n)) ≡ rest c limit there start (state_of c.names before (units + n))

-- The rest is what is left of a word whose block was chosen, through the levels below it, wherever there is room for its statements.
abbrev pub InsideGoesOn : {S : Type 0} {G : Ghosts S} → Code → List Level → Focus → (after : Hands S G) → List Level → Inside → (before : Hands S G) → Type 0
InsideGoesOn c levels at after below inside before =
    (room n : ℕ) → suc (length below) < room →
    rest c room levels at (state_of c.names after n)
    ≡ through c room below (inside_left c (room - length below) inside (state_of c.names before n))

-- The same of the statements of a block.
abbrev pub FarGoesOn : {S : Type 0} {G : Ghosts S} → Code → List Level → Focus → (after : Hands S G) → List Level → (block kept at : ℕ) → Option Inside → (before : Hands S G) → Type 0
FarGoesOn c levels at after below block kept next inside before =
    (room n : ℕ) → 2 + length below < room →
    rest c room levels at (state_of c.names after n)
    ≡ through c room below (limited (span (node_at c block))
    (far_by c (room - suc (length below)) block kept next inside (state_of c.names before n)))

-- The rest is what is left of a block, through the levels below it.
abbrev pub BlockGoesOn : {S : Type 0} {G : Ghosts S} → Code → ℕ → List Level → Focus → (after : Hands S G) → List Level → ℕ → Option Midway → (before : Hands S G) → Type 0
BlockGoesOn c limit levels at after below block midway before =
    (n : ℕ) → rest c limit levels at (state_of c.names after n)
    ≡ through c limit below (block_left c (limit - length below) block midway (state_of c.names before n))
