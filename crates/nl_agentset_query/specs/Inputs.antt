-- The inputs of a query, by place. One of another kind than the word takes there is WrongType, as one that is missing; where one agent is
-- wanted, nobody is NoAgent, and an agent that has died is nobody.
use Rattle.std.specs.Prelude.{ℕ, ℤ, Bool, if◌then◌else◌, Ok, Err, List, slice_get}
use Rattle.std.specs.List.{list_all}
use Rattle.nl_value.specs.Plain.{Plain, PlainNumber, PlainItems, PlainTurtle, PlainPatch, PlainLink, PlainNobody, PlainSet, items_of}
use Rattle.nl_value.specs.Living.{same_kind}
use Rattle.nl_value.specs.Sets.{set_kind}
use Rattle.nl_value.specs.declared.sets.AgentKind.TheVariants as kind
use Rattle.nl_value.specs.declared.sets.AgentSet.{AgentSet}
use Rattle.nl_grid.specs.declared.point.Point.{Point}
use Rattle.nl_agents.specs.World.{Rest}
use Rattle.nl_agents.specs.Standing.{fits_rest}
use Rattle.nl_agents.specs.Changes.{turtle_lives, link_lives}
use Rattle.nl_agents.specs.declared.agents.Owner.{Owner}
use Rattle.nl_agents.specs.declared.agents.Owner.TheVariants as owner
use Rattle.nl_agentset_query.specs.declared.fail.QueryFail.TheVariants.{WrongType, NoAgent}
use Rattle.nl_agentset_query.specs.Agents.{place_of}
use Rattle.nl_agentset_query.specs.Outcomes.{QueryOutcome, and_then, or_fail}

abbrev pub value_at : List Plain → ℕ → QueryOutcome Plain
value_at inputs at = or_fail WrongType (slice_get inputs at)

-- each of the inputs fits the world
abbrev pub inputs_fit : Rest → List Plain → Bool
inputs_fit r inputs = list_all (fits_rest r) inputs

-- ---- what a value is taken for

abbrev pub as_number : Plain → QueryOutcome ℤ
as_number (PlainNumber count) = Ok count
as_number value = Err WrongType

abbrev pub as_set : Plain → QueryOutcome AgentSet
as_set (PlainSet set) = Ok set
as_set value = Err WrongType

abbrev pub as_list : Plain → QueryOutcome (List Plain)
as_list (PlainItems items) = Ok (items_of items)
as_list value = Err WrongType

-- one living agent
abbrev pub as_agent : Rest → Plain → QueryOutcome Owner
as_agent r (PlainTurtle serial) = if turtle_lives r serial then Ok (owner.Turtle serial) else Err NoAgent
as_agent r (PlainPatch patch) = Ok (owner.Patch patch)
as_agent r (PlainLink serial) = if link_lives r serial then Ok (owner.Link serial) else Err NoAgent
as_agent r PlainNobody = Err NoAgent
as_agent r value = Err WrongType

-- a set of agents that stand somewhere: of turtles or of patches
abbrev pub standing_set : AgentSet → QueryOutcome AgentSet
standing_set set = if same_kind (set_kind set) kind.Link then Err WrongType else Ok set

-- the point of an agent that stands somewhere: a link is WrongType
abbrev pub standing_at : Rest → Owner → QueryOutcome Point
standing_at r (owner.Link serial) = Err WrongType
standing_at r agent = Ok (place_of r agent)

-- ---- the input at a place

abbrev pub number_at : List Plain → ℕ → QueryOutcome ℤ
number_at inputs at = and_then (value_at inputs at) as_number

abbrev pub set_at : List Plain → ℕ → QueryOutcome AgentSet
set_at inputs at = and_then (value_at inputs at) as_set

abbrev pub list_at : List Plain → ℕ → QueryOutcome (List Plain)
list_at inputs at = and_then (value_at inputs at) as_list

abbrev pub agent_at : Rest → List Plain → ℕ → QueryOutcome Owner
agent_at r inputs at = and_then (value_at inputs at) (as_agent r)

-- a set of turtles or patches
abbrev pub standing_set_at : List Plain → ℕ → QueryOutcome AgentSet
standing_set_at inputs at = and_then (set_at inputs at) standing_set

-- the point of a turtle or a patch
abbrev pub point_at : Rest → List Plain → ℕ → QueryOutcome Point
point_at r inputs at = and_then (agent_at r inputs at) (standing_at r)
