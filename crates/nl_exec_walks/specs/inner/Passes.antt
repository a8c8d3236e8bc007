-- What one pass over answers keeps of them.
use Rattle.std.specs.Prelude.{ℤ, Bool, not, if◌then◌else◌, List, Option, Some, None}
use Rattle.nl_value.specs.Living.{Living}
use Rattle.nl_value.specs.Order.{comes_first, count_of}
use Rattle.nl_value.specs.Sorting.{sorted_by}
use Rattle.nl_value.specs.Plain.{Plain}
use Rattle.nl_value.specs.Views.{plain}
use Rattle.nl_value.specs.declared.sets.AgentKind.{AgentKind}
use Rattle.nl_value.specs.declared.sets.AgentKind.TheVariants as kind
use Rattle.nl_agentset_query.specs.Agents.{agent_value}
use Rattle.nl_exec_meaning.specs.Walks.{Answer}
use Rattle.nl_exec_walks.specs.Extremes.{beyond}
use Rattle.nl_exec_walks.specs.declared.several.Ranked.{Ranked}
use Rattle.nl_exec_walks.specs.declared.orders.Placed.{Placed}

-- the better of the best so far and a number
abbrev pub better : Bool → Option ℤ → ℤ → ℤ
better up None count = count
better up (Some best) count = if beyond up best count then count else best

-- the best number isn't beyond that of the answer
abbrev pub reaches : Bool → ℤ → Answer → Bool
reaches up best a = not (beyond up (count_of a.value) best)

-- an answer by its number
abbrev pub ranked : Answer → Ranked
ranked a = record { count = count_of a.value; member = a.member }

-- one of these comes before another where its number is beyond
abbrev pub outranks : Bool → Ranked → Ranked → Bool
outranks up a b = beyond up b.count a.count

-- an agent, and what it answered
abbrev pub paired : AgentKind → Answer → Plain × Plain
paired which a = (agent_value which a.member, a.value)

abbrev pub placed : Placed → Plain × Plain
placed p = (plain p.agent, plain p.value)

-- agents of a kind with what they answered, in the order of agents
abbrev pub placed_in_order : Living → AgentKind → List (Plain × Plain) → List (Plain × Plain)
placed_in_order w kind.Turtle all = all
placed_in_order w kind.Patch all = all
placed_in_order w kind.Link all = sorted_by (λ a b. comes_first w a.0 b.0) all
