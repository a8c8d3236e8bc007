-- Agents of one kind in the order of their turns, as the code holds them.
use Rattle.std.specs.Prelude.{ℕ, Bool, Option, Some, None, Result, Ok, Err}
use Rattle.nl_fixed.specs.declared.span.Span.{Span}
use Rattle.nl_value.specs.Plain.{Plain}
use Rattle.nl_value.specs.declared.sets.AgentKind.{AgentKind}
use Rattle.nl_exec_acts.specs.declared.fail.ErrorKind.{ErrorKind}
use Rattle.nl_exec_acts.specs.declared.fail.ErrorKind.TheVariants.{NoAgent}
use Rattle.nl_exec_meaning.specs.State.{State, Outcome, come_to, rest_of}
use Rattle.nl_exec_meaning.specs.Walks as walks
use Rattle.nl_exec_meaning.specs.Walks.{Chosen, One, agents_in, one_agent, set_in, ascending, with_turns}
use Rattle.nl_exec_meaning.specs.Frames.{several}
use Rattle.nl_exec_walks.specs.declared.agents.Group.{Group}

-- the group as the meaning has it
abbrev pub group_of : Group → walks.Group
group_of g = record { which = g.which; numbers = g.members }

-- the group, and whether it is a set's
abbrev pub asked_of : Group → Bool × walks.Group
asked_of g = (g.several, group_of g)

-- the turns of who was chosen
abbrev pub chosen_by : Result Chosen ErrorKind → Span → State → (Bool × walks.Group → State → Outcome) → Outcome
chosen_by who place s next = come_to who place s (λ agents. with_turns agents s (λ group. next (several agents, group)))

-- who is asked: a set, whose members are shuffled, or one living agent
abbrev pub asking : Plain → Span → State → (Bool × walks.Group → State → Outcome) → Outcome
asking value place s next = chosen_by (agents_in (rest_of s) value) place s next

-- one living agent
abbrev pub asking_one : Plain → Span → State → (Bool × walks.Group → State → Outcome) → Outcome
asking_one value place s next = chosen_by (one_agent (rest_of s) value) place s next

-- the members of a set, ascending
abbrev pub listing : Plain → Span → State → (walks.Group → State → Outcome) → Outcome
listing value place s next = come_to (set_in value) place s (λ set. next (ascending (rest_of s) set) s)

-- an agent by its kind and number; the observer is none
abbrev pub one_or_none : Option (AgentKind × ℕ) → Result Chosen ErrorKind
one_or_none None = Err NoAgent
one_or_none (Some turn) = Ok (One turn.0 turn.1)
