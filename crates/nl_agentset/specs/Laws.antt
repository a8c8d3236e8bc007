-- What queries mean: laws above the definitions.
use Rattle.std.specs.Prelude.{◌≡◌, ℕ, ℤ, ◌≤ℤ◌, ◌&&◌, not, false, List, All, Option, Ok, IsTrue}
use Rattle.std.specs.List.Sorted.{IsStrictlyIncreasing}
use Rattle.nl_value.specs.Nouns.{Serials}
use Rattle.nl_value.specs.Plain.{Plain, Plains}
use Rattle.nl_value.specs.Sets.{set_kind}
use Rattle.nl_value.specs.declared.sets.AgentKind.{AgentKind}
use Rattle.nl_value.specs.declared.sets.AgentSet.{AgentSet}
use Rattle.nl_grid.specs.declared.point.Point.{Point}
use Rattle.nl_agents_layout.specs.Nouns.{BreedNumber}
use Rattle.nl_agents.specs.World.{Rest, World}
use Rattle.nl_agents.specs.Changes.{OwnerLives}
use Rattle.nl_agents.specs.Members.{members_of, is_listed}
use Rattle.nl_agents.specs.Standing.{IsWorld, fits_rest}
use Rattle.nl_agents.specs.declared.agents.Link as the_link
use Rattle.nl_agents.specs.declared.agents.Owner.{Owner}
use Rattle.nl_agentset_query.specs.Near.{members_within}
use Rattle.nl_agentset_query.specs.Agents.{is_of, listed_value}
use Rattle.nl_agentset_query.specs.Inputs.{inputs_fit}
use Rattle.nl_agentset_query.specs.declared.words.QueryWord.{QueryWord}
use Rattle.nl_agentset_query.specs.declared.words.Side.{Side}
use Rattle.nl_agentset_query.specs.declared.words.Side.TheVariants as side
use Rattle.nl_agentset.specs.Links.{is_neighbor}
use Rattle.nl_agentset.specs.Queries.{query_answer, word_breed_fits}
use Rattle.nl_agentset.specs.Sets.{is_caller, others}
use Rattle.nl_agentset_query.specs.Unions.{union_of}

-- what a query answers fits the world, where its inputs do
abbrev pub AnswersFit : Type 0
AnswersFit =
    (w : World) (breed : Option BreedNumber) (caller : Owner) (word : QueryWord) (inputs : List Plain) (state after : ℕ) (answer : Plain) →
    IsWorld w → OwnerLives caller w → IsTrue (word_breed_fits w.rest.layout word breed) → IsTrue (inputs_fit w.rest inputs) →
    query_answer w.rest breed caller word inputs state ≡ Ok (answer, after) → IsTrue (fits_rest w.rest answer)

-- others are the members of a set that aren't the caller
abbrev pub OthersAreAllButTheCaller : Type 0
OthersAreAllButTheCaller =
    (r : Rest) (caller : Owner) (agents : AgentSet) (number : ℕ) →
    is_listed (others r caller agents) number ≡ (is_listed (members_of r agents) number && not (is_caller caller (set_kind agents) number))

-- who is within a radius is within each greater one
abbrev pub GreaterRadiiReachMore : Type 0
GreaterRadiiReachMore =
    (r : Rest) (agents : AgentSet) (at : Point) (radius greater : ℤ) (number : ℕ) → radius ≤ℤ greater →
    IsTrue (is_listed (members_within r agents at radius) number) → IsTrue (is_listed (members_within r agents at greater) number)

-- a union ascends, so it has each member once
abbrev pub UnionsAscend : Type 0
UnionsAscend =
    (w : World) (kind : AgentKind) (values : Plains) (numbers : Serials) → IsWorld w →
    union_of w.rest kind values ≡ Ok (listed_value kind numbers) → IsStrictlyIncreasing numbers

-- a neighbor's neighbor by any link is the turtle itself, and who is one by a link that leads to the turtle has it as one by a link that leads away
abbrev pub NeighborsAreMutual : Type 0
NeighborsAreMutual =
    (w : World) (breed : Option BreedNumber) (one other : ℕ) → IsWorld w →
    is_neighbor w.rest side.Any breed one other ≡ is_neighbor w.rest side.Any breed other one

abbrev pub WaysAreOpposite : Type 0
WaysAreOpposite =
    (w : World) (breed : Option BreedNumber) (one other : ℕ) → IsWorld w →
    is_neighbor w.rest side.In breed one other ≡ is_neighbor w.rest side.Out breed other one

-- links without a direction lead both ways
abbrev pub UndirectedLeadBothWays : Type 0
UndirectedLeadBothWays =
    (r : Rest) (which : Side) (breed : Option BreedNumber) (one other : ℕ) → All (λ (l : the_link.Link). IsTrue (is_of breed l.breed) → l.directed ≡ false) r.links →
    is_neighbor r which breed one other ≡ is_neighbor r side.Any breed one other
