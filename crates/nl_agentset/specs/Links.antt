-- The links of a turtle, the turtles at their other ends, and what the ends of a link give.
use Rattle.std.specs.Prelude.{ℕ, ◌==◌, ◌&&◌, ◌||◌, not, nat_lt, Bool, true, false, if◌then◌else◌, List, [], ◌∷◌, filter, find, Option, Some, None, Ok, Err}
use Rattle.std.specs.List.{list_any, list_all}
use Rattle.nl_value.specs.Nouns.{Serials}
use Rattle.nl_value.specs.Living.{Living, link_comes_before}
use Rattle.nl_value.specs.Plain.{Plain, PlainTruth}
use Rattle.nl_value.specs.declared.sets.AgentKind.TheVariants as kind
use Rattle.nl_agents_layout.specs.Nouns.{BreedNumber}
use Rattle.nl_agents.specs.World.{Rest}
use Rattle.nl_agents.specs.Changes.{turtle_of, link_of, has_end}
use Rattle.nl_agents.specs.Members.{all_turtles, links_where}
use Rattle.nl_agents.specs.Names.{living_of}
use Rattle.nl_agents.specs.declared.agents.Link as the_link
use Rattle.nl_agents.specs.declared.agents.Owner.{Owner}
use Rattle.nl_agents.specs.declared.agents.Owner.TheVariants as owner
use Rattle.nl_agentset_query.specs.declared.fail.QueryFail.TheVariants.{WrongType}
use Rattle.nl_agentset_query.specs.declared.words.Side.{Side}
use Rattle.nl_agentset_query.specs.declared.words.Side.TheVariants as side
use Rattle.nl_agentset_query.specs.declared.words.OfEnds.{OfEnds}
use Rattle.nl_agentset_query.specs.declared.words.OfEnds.TheVariants as of_ends
use Rattle.nl_agentset_query.specs.declared.words.Measure.TheVariants as measure
use Rattle.nl_agentset_query.specs.Agents.{point_of, is_of, listed_value, agent_or_nobody}
use Rattle.nl_agentset_query.specs.Inputs.{agent_at}
use Rattle.nl_agentset_query.specs.Outcomes.{QueryOutcome, and_then}
use Rattle.nl_agentset.specs.Places.{measured}

-- ---- links of a turtle

-- a link with these ends leads to the turtle, or from it; one without a direction does both
abbrev pub leads : Side → ℕ → Bool → ℕ → ℕ → Bool
leads side.Any turtle directed end1 end2 = true
leads side.In turtle directed end1 end2 = not directed || (end2 == turtle)
leads side.Out turtle directed end1 end2 = not directed || (end1 == turtle)

abbrev pub is_on_side : Side → ℕ → the_link.Link → Bool
is_on_side which turtle l = leads which turtle l.directed l.end1 l.end2

-- the link has the turtle as an end, and is of the word's breed and side
abbrev pub is_link_at : Side → Option BreedNumber → ℕ → the_link.Link → Bool
is_link_at which breed turtle l = has_end turtle l && is_of breed l.breed && is_on_side which turtle l

abbrev pub other_end_of : ℕ → the_link.Link → ℕ
other_end_of turtle l = if l.end1 == turtle then l.end2 else l.end1

-- such a link joins the turtle with this one
abbrev pub is_link_to : Side → Option BreedNumber → ℕ → ℕ → the_link.Link → Bool
is_link_to which breed turtle other l = is_link_at which breed turtle l && (other_end_of turtle l == other)

abbrev pub links_at : Rest → Side → Option BreedNumber → ℕ → Serials
links_at r which breed turtle = links_where (is_link_at which breed turtle) r

-- the turtles at their other ends
abbrev pub is_neighbor : Rest → Side → Option BreedNumber → ℕ → ℕ → Bool
is_neighbor r which breed turtle other = list_any (is_link_to which breed turtle other) r.links

abbrev pub neighbors_at : Rest → Side → Option BreedNumber → ℕ → Serials
neighbors_at r which breed turtle = filter (is_neighbor r which breed turtle) (all_turtles r)

-- the least of the links to a turtle, in the order of links
abbrev pub is_least : Living → Serials → ℕ → Bool
is_least w links link = list_all (λ other. not (link_comes_before w other link)) links

abbrev pub least_of : Rest → Serials → Option ℕ
least_of r links = find (is_least (living_of r) links) links

abbrev pub least_link : Rest → Side → Option BreedNumber → ℕ → ℕ → Option ℕ
least_link r which breed turtle other = least_of r (links_where (is_link_to which breed turtle other) r)

-- ---- their words, which turtles run

abbrev pub own_links : Rest → Side → Option BreedNumber → Owner → QueryOutcome Plain
own_links r which breed (owner.Turtle turtle) = Ok (listed_value kind.Link (links_at r which breed turtle))
own_links r which breed caller = Err WrongType

abbrev pub own_neighbors : Rest → Side → Option BreedNumber → Owner → QueryOutcome Plain
own_neighbors r which breed (owner.Turtle turtle) = Ok (listed_value kind.Turtle (neighbors_at r which breed turtle))
own_neighbors r which breed caller = Err WrongType

-- an agent that is no turtle is no neighbor, and no link leads to it
abbrev pub neighbor_told : Rest → Side → Option BreedNumber → ℕ → Owner → Bool
neighbor_told r which breed turtle (owner.Turtle other) = is_neighbor r which breed turtle other
neighbor_told r which breed turtle agent = false

abbrev pub link_told : Rest → Side → Option BreedNumber → ℕ → Owner → Option ℕ
link_told r which breed turtle (owner.Turtle other) = least_link r which breed turtle other
link_told r which breed turtle agent = None

abbrev pub neighbor_tested : Rest → Side → Option BreedNumber → Owner → List Plain → QueryOutcome Plain
neighbor_tested r which breed (owner.Turtle turtle) inputs = and_then (agent_at r inputs 0) (λ agent. Ok (PlainTruth (neighbor_told r which breed turtle agent)))
neighbor_tested r which breed caller inputs = Err WrongType

abbrev pub link_found : Rest → Side → Option BreedNumber → Owner → List Plain → QueryOutcome Plain
link_found r which breed (owner.Turtle turtle) inputs =
    and_then (agent_at r inputs 0) (λ agent. Ok (agent_or_nobody kind.Link (link_told r which breed turtle agent)))
link_found r which breed caller inputs = Err WrongType

-- ---- the ends of a link

-- two turtles in the order of their serials
abbrev pub both_of : ℕ → ℕ → Serials
both_of a b = if nat_lt a b then a ∷ b ∷ [] else b ∷ a ∷ []

abbrev pub of_link : Rest → OfEnds → the_link.Link → QueryOutcome Plain
of_link r of_ends.Both l = Ok (listed_value kind.Turtle (both_of l.end1 l.end2))
of_link r of_ends.Length l = measured r.shape measure.Distance (point_of (turtle_of l.end1 r)) (point_of (turtle_of l.end2 r))
of_link r of_ends.Heading l = measured r.shape measure.Towards (point_of (turtle_of l.end1 r)) (point_of (turtle_of l.end2 r))

abbrev pub of_link_found : Rest → OfEnds → Option the_link.Link → QueryOutcome Plain
of_link_found r which None = Err WrongType
of_link_found r which (Some l) = of_link r which l

abbrev pub ends_told : Rest → OfEnds → Owner → QueryOutcome Plain
ends_told r which (owner.Link serial) = of_link_found r which (link_of serial r)
ends_told r which caller = Err WrongType
