-- Unions of agents, sets and lists of them.
use Rattle.std.specs.Prelude.{ℕ, not, Bool, true, if◌then◌else◌, [], ◌∷◌, ◌++◌, filter, Ok, Err}
use Rattle.nl_value.specs.Nouns.{Serials}
use Rattle.nl_value.specs.Living.{same_kind}
use Rattle.nl_value.specs.Sets.{set_kind}
use Rattle.nl_value.specs.Plain.{Plain, Plains, PlainNumber, PlainTruth, PlainWords, PlainItems, PlainTurtle, PlainPatch, PlainLink, PlainNobody, PlainSet, no_items, item_then}
use Rattle.nl_value.specs.declared.sets.AgentKind.{AgentKind}
use Rattle.nl_value.specs.declared.sets.AgentKind.TheVariants as kind
use Rattle.nl_value.specs.declared.sets.AgentSet.{AgentSet}
use Rattle.nl_value.specs.declared.sets.AgentSet.TheVariants as set
use Rattle.nl_agents.specs.World.{Rest}
use Rattle.nl_agents.specs.Changes.{turtle_lives, link_lives}
use Rattle.nl_agents.specs.Members.{members_of, is_listed}
use Rattle.nl_agentset_query.specs.declared.fail.QueryFail.TheVariants.{WrongType}
use Rattle.nl_agentset_query.specs.Agents.{listed_value}
use Rattle.nl_agentset_query.specs.Outcomes.{QueryOutcome, and_then}

-- all agents of a kind
abbrev pub all_of : AgentKind → AgentSet
all_of kind.Turtle = set.Turtles
all_of kind.Patch = set.Patches
all_of kind.Link = set.Links

-- an agent of the kind that lives, a dead one, which is nobody, or one of another kind
abbrev pub one_united : AgentKind → AgentKind → Bool → ℕ → QueryOutcome Serials
one_united wanted own lives number = if not lives then Ok [] else if same_kind wanted own then Ok (number ∷ []) else Err WrongType

-- the numbers of the agents in a value of agents, sets and lists of them at any depth, nobody passed over
abbrev mutual
  pub united : Rest → AgentKind → Plain → QueryOutcome Serials
  united r wanted (PlainTurtle serial) = one_united wanted kind.Turtle (turtle_lives r serial) serial
  united r wanted (PlainPatch patch) = one_united wanted kind.Patch true patch
  united r wanted (PlainLink serial) = one_united wanted kind.Link (link_lives r serial) serial
  united r wanted PlainNobody = Ok []
  united r wanted (PlainSet agents) = if same_kind wanted (set_kind agents) then Ok (members_of r agents) else Err WrongType
  united r wanted (PlainItems items) = all_united r wanted items
  united r wanted (PlainNumber count) = Err WrongType
  united r wanted (PlainTruth truth) = Err WrongType
  united r wanted (PlainWords bytes) = Err WrongType

  pub all_united : Rest → AgentKind → Plains → QueryOutcome Serials
  all_united r wanted no_items = Ok []
  all_united r wanted (item_then first rest) =
      and_then (united r wanted first) (λ some. and_then (all_united r wanted rest) (λ more. Ok (some ++ more)))

-- the union: those of all agents of the kind that stand in one of the values, each once and ascending
abbrev pub union_of : Rest → AgentKind → Plains → QueryOutcome Plain
union_of r wanted values =
    and_then (all_united r wanted values) (λ numbers. Ok (listed_value wanted (filter (is_listed numbers) (members_of r (all_of wanted)))))
