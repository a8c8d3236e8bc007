-- What is done at once: it comes to what the meaning of texts says of it, wherever there is room for so many nodes in each other.
use Rattle.std.specs.Prelude.{◌≡◌, Bool, true, false, ℕ, ◌+◌, ◌-◌, ◌<◌, List, [], ◌∷◌, ◌++◌, Option, Some, None, drop}
use Rattle.nl_fixed.specs.Nouns.{Names}
use Rattle.nl_value.specs.Plain.{Plain}
use Rattle.nl_tree.specs.Tree.{Node, parts, span}
use Rattle.nl_agents.specs.declared.agents.Owner.{Owner}
use Rattle.nl_agents.specs.declared.agents.Owner.TheVariants as owner
use Rattle.nl_agents.specs.declared.store.Store.{Ghosts}
use Rattle.nl_exec_meaning.specs.Code.{Code, node_at}
use Rattle.nl_exec_meaning.specs.State.{State, Outcome, Eval, gives, goes_on, ◌>>=◌}
use Rattle.nl_exec_meaning.specs.Blocks.{leaving, statements, turns}
use Rattle.nl_exec_meaning.specs.Walks.{Answer, Reply, Keep, Pass, Decide, Refuse, replied, reply_to, valued}
use Rattle.nl_exec_meaning.specs.Meaning.{evaluator, limited}
use Rattle.nl_exec_meaning.specs.Seen.{state_of}
use Rattle.nl_exec_meaning.specs.declared.hands.Hands.{Hands}
use Rattle.nl_exec_meaning.specs.Frames.{gathered_from}
use Rattle.nl_exec_meaning.specs.declared.turns.Gathered.{Gathered}
use Rattle.nl_exec_meaning.specs.declared.turns.Turns.{Turns}
use Rattle.nl_exec_meaning.specs.declared.words.Control.{Control}
use Rattle.nl_exec_meaning.specs.declared.words.Control.TheVariants as control
use Rattle.nl_exec_meaning.specs.declared.words.Over.{Over}
use Rattle.nl_exec_at_once.specs.declared.statements.Done.{Done}
use Rattle.nl_exec_at_once.specs.declared.statements.Done.TheVariants as done
use Rattle.nl_exec_at_once.specs.declared.statements.Far.{Far}
use Rattle.nl_exec_at_once.specs.declared.statements.Inside.{Inside}
use Rattle.nl_exec_at_once.specs.declared.turns.Midway.{Midway}

-- nothing is changed that a text could see
abbrev pub IsAsBefore : {S : Type 0} {G : Ghosts S} → (after before : Hands S G) → Type 0
IsAsBefore after before = (names : Names) (n : ℕ) → state_of names after n ≡ state_of names before n

-- the node goes on, from the hands with so many units to those with what is left of them
abbrev pub GoesOn : {S : Type 0} {G : Ghosts S} → Code → ℕ → ℕ → (after : Hands S G) → ℕ → (before : Hands S G) → ℕ → Type 0
GoesOn c node nested after left before units =
    (room n : ℕ) → nested < room →
    evaluator c.program room (node_at c node) (state_of c.names before (units + n)) ≡ goes_on (state_of c.names after (left + n))

-- ---- how far a statement was done

-- what is left of a word whose block was chosen, where the word itself has so much room
abbrev pub inside_left : Code → ℕ → Inside → State → Outcome
inside_left c room inside s =
    limited (span (node_at c inside.word)) (limited (span (node_at c inside.block))
    (statements (evaluator c.program (room - 2)) inside.kept (drop inside.at (parts (node_at c inside.block))) s))

-- the same of any statement
abbrev pub left_of : Code → ℕ → Done → State → Outcome
left_of c room done.Whole s = goes_on s
left_of c room (done.UpTo inside) s = inside_left c room inside s

-- the node goes so far, from the hands with so many units to those with what is left of them
abbrev pub GoesUpTo : {S : Type 0} {G : Ghosts S} → Code → ℕ → ℕ → Done → (after : Hands S G) → ℕ → (before : Hands S G) → ℕ → Type 0
GoesUpTo c node nested how after left before units =
    (room n : ℕ) → nested < room →
    evaluator c.program room (node_at c node) (state_of c.names before (units + n)) ≡ left_of c room how (state_of c.names after (left + n))

-- `ifelse`, or `if`
abbrev pub choosing : Bool → Control
choosing true = control.IfElse
choosing false = control.If

-- ---- how far the statements of a block were done

-- what is left of them, where each has so much room
abbrev pub far_by : Code → ℕ → (block kept at : ℕ) → Option Inside → State → Outcome
far_by c room block kept at None s = statements (evaluator c.program room) kept (drop at (parts (node_at c block))) s
far_by c room block kept at (Some inside) s =
    leaving kept (inside_left c room inside s) (λ value s1. statements (evaluator c.program room) kept (drop at (parts (node_at c block))) s1)

abbrev pub far_left : Code → ℕ → (block kept : ℕ) → Far → State → Outcome
far_left c room block kept far s = far_by c room block kept far.at far.inside s

-- what is left of a block, which itself has so much room
abbrev pub block_left : Code → ℕ → ℕ → Option Midway → State → Outcome
block_left c room block None s = goes_on s
block_left c room block (Some midway) s = limited (span (node_at c block)) (far_left c (room - 1) block midway.kept midway.far s)

-- ---- turns

-- so many turns of `repeat` come behind a turn
abbrev pub then_turns : ℕ → Eval → Node → Outcome → Outcome
then_turns left prev t o = o >>= λ value s. turns left prev t s

abbrev pub is_agent : Owner → Bool
is_agent owner.Observer = false
is_agent (owner.Turtle turtle) = true
is_agent (owner.Patch patch) = true
is_agent (owner.Link link) = true

-- a member's turn that has this value, or none yet: what comes of it, and of the members behind it
abbrev pub answering : Code → Eval → Node → ℕ → Over → Gathered → ℕ → Turns → List Answer → Outcome → Outcome
answering c prev t index word what member turns made o =
    valued turns.site (span t) o (λ value s. replied (reply_to word value) (span t) member value made s (λ more s1.
    gathered_from prev t index word what turns more s1))

-- the answers with this one, where it is kept, or without it, where it is passed over; none where all ends
abbrev pub told_by : Reply → ℕ → Plain → List Answer → Option (List Answer)
told_by Keep member value made = Some (made ++ record { member = member; value = value } ∷ [])
told_by Pass member value made = Some made
told_by (Decide answer) member value made = None
told_by Refuse member value made = None

-- the value that is there, or the block that is still to be evaluated
abbrev pub value_or_block : Code → Eval → ℕ → Option Plain → State → Outcome
value_or_block c prev block None s = prev (node_at c block) s
value_or_block c prev block (Some value) s = gives value s
