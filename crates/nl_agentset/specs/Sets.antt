-- Sets, their members, and agents by what they are called.
-- A set that a word makes of others lists its members, so it never grows; the sets of all agents and of breeds stay what they are.
use Rattle.std.specs.Prelude.{ℕ, ℤ, pos, ◌*ℤ◌, ◌==◌, ◌&&◌, ◌||◌, not, Bool, true, false, if◌then◌else◌, List, [], ◌∷◌, filter, find, length, Option, Some, None, option_map, Ok, Err}
use Rattle.std.specs.Ordering.{int_eq}
use Rattle.nl_fixed.specs.Numbers.{one, is_whole}
use Rattle.nl_value.specs.Nouns.{Serials}
use Rattle.nl_value.specs.Sets.{set_kind}
use Rattle.nl_value.specs.Plain.{Plain, PlainNumber, PlainTruth, PlainTurtle, PlainPatch, PlainLink, PlainNobody}
use Rattle.nl_value.specs.declared.sets.AgentKind.{AgentKind}
use Rattle.nl_value.specs.declared.sets.AgentKind.TheVariants as kind
use Rattle.nl_value.specs.declared.sets.AgentSet.{AgentSet}
use Rattle.nl_value.specs.declared.sets.AgentSet.TheVariants as set
use Rattle.nl_grid.specs.Geometry.{patch_at, wrapped_point}
use Rattle.nl_agents_layout.specs.Nouns.{BreedNumber}
use Rattle.nl_agents.specs.World.{Rest}
use Rattle.nl_agents.specs.Changes.{turtle_of, link_of, turtle_lives, link_lives}
use Rattle.nl_agents.specs.Members.{members_of, is_listed}
use Rattle.nl_agents.specs.Names.{who_of}
use Rattle.nl_agents.specs.declared.agents.Turtle as the_turtle
use Rattle.nl_agents.specs.declared.agents.Link as the_link
use Rattle.nl_agents.specs.declared.agents.Owner.{Owner}
use Rattle.nl_agents.specs.declared.agents.Owner.TheVariants as owner
use Rattle.nl_agentset_query.specs.declared.fail.QueryFail.TheVariants.{WrongType}
use Rattle.nl_agentset_query.specs.declared.words.Whole.{Whole}
use Rattle.nl_agentset_query.specs.declared.words.Whole.TheVariants as whole
use Rattle.nl_agentset_query.specs.declared.words.LookUp.{LookUp}
use Rattle.nl_agentset_query.specs.declared.words.LookUp.TheVariants as look_up
use Rattle.nl_agentset_query.specs.declared.words.OfBreed.{OfBreed}
use Rattle.nl_agentset_query.specs.declared.words.OfBreed.TheVariants as of_breed
use Rattle.nl_agentset_query.specs.declared.words.OfSet.{OfSet}
use Rattle.nl_agentset_query.specs.declared.words.OfSet.TheVariants as of_set
use Rattle.nl_agentset_query.specs.Agents.{agent_or_nobody, listed_value, is_of, breed_or_none, turtle_passes, link_passes}
use Rattle.nl_agentset_query.specs.Inputs.{value_at, number_at, set_at}
use Rattle.nl_agentset_query.specs.Outcomes.{QueryOutcome, and_then}

-- ---- sets without inputs

abbrev pub turtles_of : Option BreedNumber → AgentSet
turtles_of None = set.Turtles
turtles_of (Some breed) = set.Breed breed

abbrev pub links_of : Option BreedNumber → AgentSet
links_of None = set.Links
links_of (Some breed) = set.LinkBreed breed

abbrev pub whole_set : Whole → Option BreedNumber → AgentSet
whole_set whole.Turtles breed = turtles_of breed
whole_set whole.Patches breed = set.Patches
whole_set whole.Links breed = links_of breed
whole_set whole.NoTurtles breed = set.SomeTurtles []
whole_set whole.NoPatches breed = set.SomePatches []
whole_set whole.NoLinks breed = set.SomeLinks []

-- ---- agents by what they are called

-- the turtle of a serial is called by the number
abbrev pub is_called : Rest → ℤ → ℕ → Bool
is_called r number serial = int_eq (pos (who_of r serial) *ℤ pos one) number

abbrev pub whole_or_wrong : ℤ → QueryOutcome ℤ
whole_or_wrong number = if is_whole number then Ok number else Err WrongType

-- the turtle that is called by a number
abbrev pub turtle_named : Rest → ℤ → Option the_turtle.Turtle
turtle_named r number = find (λ t. is_called r number t.serial) r.turtles

-- the turtle, or nobody where there is none; one of another breed than the word's is WrongType
abbrev pub bred_or_wrong : Option BreedNumber → Option the_turtle.Turtle → QueryOutcome Plain
bred_or_wrong breed None = Ok PlainNobody
bred_or_wrong breed (Some t) = if is_of breed t.breed then Ok (PlainTurtle t.serial) else Err WrongType

abbrev pub turtle_called : Rest → Option BreedNumber → ℤ → QueryOutcome Plain
turtle_called r breed number = and_then (whole_or_wrong number) (λ n. bred_or_wrong breed (turtle_named r n))

-- the patch at a point of the world, or nobody
abbrev pub patch_called : Rest → ℤ → ℤ → Plain
patch_called r x y = agent_or_nobody kind.Patch (option_map (patch_at r.shape) (wrapped_point r.shape x y))

-- the link is of the breed and leads from the first turtle to the second, or either way round where it has no direction
abbrev pub is_between : BreedNumber → ℕ → ℕ → the_link.Link → Bool
is_between breed first second l =
    (l.breed == breed)
    && (((l.end1 == first) && (l.end2 == second)) || (not l.directed && (l.end1 == second) && (l.end2 == first)))

abbrev pub link_between : Rest → BreedNumber → Option the_turtle.Turtle → Option the_turtle.Turtle → Option the_link.Link
link_between r breed None second = None
link_between r breed (Some first) None = None
link_between r breed (Some first) (Some second) = find (is_between breed first.serial second.serial) r.links

-- the link of the word's breed, or of none, between the turtles that are called so, or nobody where there is none; no two links of one
-- breed join two turtles the same way
abbrev pub link_called : Rest → Option BreedNumber → ℤ → ℤ → QueryOutcome Plain
link_called r breed first second =
    and_then (whole_or_wrong first) (λ a. and_then (whole_or_wrong second) (λ b.
    Ok (agent_or_nobody kind.Link (option_map (λ l. l.serial) (link_between r (breed_or_none breed) (turtle_named r a) (turtle_named r b))))))

abbrev pub looked_up : Rest → LookUp → Option BreedNumber → List Plain → QueryOutcome Plain
looked_up r look_up.Turtle breed inputs = and_then (number_at inputs 0) (turtle_called r breed)
looked_up r look_up.Patch breed inputs = and_then (number_at inputs 0) (λ x. and_then (number_at inputs 1) (λ y. Ok (patch_called r x y)))
looked_up r look_up.Link breed inputs = and_then (number_at inputs 0) (λ first. and_then (number_at inputs 1) (link_called r breed first))

-- ---- tests of a breed: a dead agent is of none

abbrev pub is_of_breed_value : Rest → OfBreed → Option BreedNumber → Plain → Bool
is_of_breed_value r of_breed.Turtle breed (PlainTurtle serial) = turtle_passes (λ t. is_of breed t.breed) (turtle_of serial r)
is_of_breed_value r of_breed.Link breed (PlainLink serial) = link_passes (λ l. is_of breed l.breed) (link_of serial r)
is_of_breed_value r which breed value = false

abbrev pub breed_tested : Rest → OfBreed → Option BreedNumber → List Plain → QueryOutcome Plain
breed_tested r which breed inputs = and_then (value_at inputs 0) (λ value. Ok (PlainTruth (is_of_breed_value r which breed value)))

-- ---- words of a set alone

-- the caller is the agent of this kind and number
abbrev pub is_caller : Owner → AgentKind → ℕ → Bool
is_caller (owner.Turtle serial) kind.Turtle number = number == serial
is_caller (owner.Patch patch) kind.Patch number = number == patch
is_caller (owner.Link serial) kind.Link number = number == serial
is_caller caller which number = false

-- all members but the caller
abbrev pub others : Rest → Owner → AgentSet → Serials
others r caller agents = filter (λ number. not (is_caller caller (set_kind agents) number)) (members_of r agents)

abbrev pub has_members : Serials → Bool
has_members [] = false
has_members (n ∷ ns) = true

abbrev pub of_agents : Rest → Owner → OfSet → AgentSet → Plain
of_agents r caller of_set.Other agents = listed_value (set_kind agents) (others r caller agents)
of_agents r caller of_set.Count agents = PlainNumber (pos (length (members_of r agents)) *ℤ pos one)
of_agents r caller of_set.Any agents = PlainTruth (has_members (members_of r agents))

abbrev pub set_told : Rest → Owner → OfSet → List Plain → QueryOutcome Plain
set_told r caller which inputs = and_then (set_at inputs 0) (λ agents. Ok (of_agents r caller which agents))
