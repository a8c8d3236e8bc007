-- How many records queries read at most. What ends in an error before it comes to read reads nothing.
use Rattle.std.specs.Prelude.{ℕ, ◌+◌, Option, Some, None, option_map, Ok, Err, List, filter, length}
use Rattle.nl_value.specs.Nouns.{Serials}
use Rattle.nl_value.specs.Plain.{Plain, plains}
use Rattle.nl_value.specs.declared.sets.AgentSet.{AgentSet}
use Rattle.nl_value.specs.declared.sets.AgentSet.TheVariants as set
use Rattle.nl_grid.specs.Geometry.{all_patches, patch_at}
use Rattle.nl_agents.specs.World.{Rest}
use Rattle.nl_agents.specs.Members.{turtles_where, all_links, links_with_end, is_listed, is_on, most_reads}
use Rattle.nl_agents.specs.declared.agents.Owner.{Owner}
use Rattle.nl_agents.specs.declared.agents.Owner.TheVariants as owner
use Rattle.nl_agentset_query.specs.Near.{near_reads}
use Rattle.nl_agentset_query.specs.declared.words.LookUp.{LookUp}
use Rattle.nl_agentset_query.specs.declared.words.LookUp.TheVariants as look_up
use Rattle.nl_agentset_query.specs.declared.words.OfSet.{OfSet}
use Rattle.nl_agentset_query.specs.declared.words.OfSet.TheVariants as of_set
use Rattle.nl_agentset_query.specs.declared.words.PatchBy.TheVariants as patch_by
use Rattle.nl_agentset_query.specs.declared.words.Standing.{Standing}
use Rattle.nl_agentset_query.specs.declared.words.Standing.TheVariants as standing
use Rattle.nl_agentset_query.specs.declared.words.QueryWord.{QueryWord}
use Rattle.nl_agentset_query.specs.declared.words.QueryWord.TheVariants as word
use Rattle.nl_agentset_query.specs.Agents.{place_of, own_patch}
use Rattle.nl_agentset_query.specs.Inputs.{value_at, set_at, number_at, standing_set_at}
use Rattle.nl_agentset_query.specs.Outcomes.{QueryOutcome, and_then, outcome_map}
use Rattle.nl_agentset_query.specs.Reads.{members_reads, choice_reads, all_united_reads}
use Rattle.nl_agentset.specs.Places.{patches_of_value, patch_reached}
use Rattle.nl_agentset.specs.Sets.{turtle_named}

-- a bound that may end in an error
abbrev pub or_none : QueryOutcome ℕ → ℕ
or_none (Ok most) = most
or_none (Err fail) = 0

-- ---- members

-- to count the members of a set: none but for the links of a breed, which are sought among all links
abbrev pub count_reads : Rest → AgentSet → ℕ
count_reads r set.Turtles = 0
count_reads r (set.Breed breed) = 0
count_reads r set.Patches = 0
count_reads r set.Links = 0
count_reads r (set.LinkBreed breed) = length (all_links r) + 1
count_reads r (set.SomeTurtles numbers) = 0
count_reads r (set.SomePatches numbers) = 0
count_reads r (set.SomeLinks numbers) = 0

abbrev pub set_reads : Rest → OfSet → AgentSet → ℕ
set_reads r of_set.Other agents = most_reads r agents
set_reads r of_set.Count agents = count_reads r agents
set_reads r of_set.Any agents = count_reads r agents

-- ---- turtles on patches

-- for the turtles on a patch
abbrev pub patch_reads : Rest → ℕ → ℕ
patch_reads r patch = length (turtles_where (is_on r patch) r) + 1

-- for the turtles on some patches, each of which is looked at once: one for each turtle on them, and one for each patch
abbrev pub turtles_on_any : Rest → List ℕ → Serials
turtles_on_any r patches = turtles_where (λ t. is_listed patches (patch_at r.shape t.at)) r

abbrev pub patches_reads : Rest → List ℕ → ℕ
patches_reads r patches = length (turtles_on_any r patches) + length (filter (is_listed patches) (all_patches r.shape))

-- for the turtles on a patch that was found, and none outside
abbrev pub reads_at : Rest → Option ℕ → ℕ
reads_at r None = 0
reads_at r (Some patch) = patch_reads r patch

-- for the turtles on the patches of a value: its members come first
abbrev pub value_reads : Rest → Plain → ℕ
value_reads r value = members_reads r value + or_none (outcome_map (patches_reads r) (patches_of_value r value))

-- ---- links of a turtle

-- for the links of a turtle
abbrev pub links_reads : Rest → ℕ → ℕ
links_reads r turtle = length (links_with_end turtle r) + 1

-- the same where there is such a turtle
abbrev pub found_reads : Rest → Option ℕ → ℕ
found_reads r None = 0
found_reads r (Some turtle) = links_reads r turtle

-- the words of links read those of the turtle that runs them
abbrev pub own_reads : Rest → Owner → ℕ
own_reads r (owner.Turtle turtle) = links_reads r turtle
own_reads r caller = 0

-- a link is sought among those of its first turtle
abbrev pub look_up_reads : Rest → LookUp → List Plain → ℕ
look_up_reads r look_up.Turtle inputs = 0
look_up_reads r look_up.Patch inputs = 0
look_up_reads r look_up.Link inputs =
    or_none (outcome_map (λ first. found_reads r (option_map (λ t. t.serial) (turtle_named r first))) (number_at inputs 0))

-- ---- the words

-- for the members of a set near the caller: those of the box of the radius
abbrev pub near_caller_reads : Rest → Owner → List Plain → QueryOutcome ℕ
near_caller_reads r caller inputs =
    and_then (standing_set_at inputs 0) (λ agents. outcome_map (near_reads r agents (place_of r caller)) (number_at inputs 1))

abbrev pub standing_reads : Rest → Owner → Standing → List Plain → ℕ
standing_reads r caller standing.On inputs = or_none (outcome_map (value_reads r) (value_at inputs 0))
standing_reads r caller standing.Here inputs = patch_reads r (own_patch r caller)
standing_reads r caller standing.At inputs = or_none (outcome_map (reads_at r) (patch_reached r caller patch_by.At inputs))
standing_reads r caller standing.AtPoints inputs = or_none (outcome_map (most_reads r) (standing_set_at inputs 0))
standing_reads r caller standing.InRadius inputs = or_none (near_caller_reads r caller inputs)
standing_reads r caller standing.InCone inputs = or_none (near_caller_reads r caller inputs)

-- each query by its word: those that aren't named here list no agents
abbrev pub few_reads : Rest → Owner → QueryWord → List Plain → ℕ
few_reads r caller (word.LookUp which) inputs = look_up_reads r which inputs
few_reads r caller (word.OfSet which) inputs = or_none (outcome_map (set_reads r which) (set_at inputs 0))
few_reads r caller (word.Union which) inputs = all_united_reads r (plains inputs)
few_reads r caller (word.Choice which) inputs = choice_reads r which inputs
few_reads r caller (word.Standing which) inputs = standing_reads r caller which inputs
few_reads r caller (word.MyLinks which) inputs = own_reads r caller
few_reads r caller (word.Neighbors which) inputs = own_reads r caller
few_reads r caller (word.IsNeighbor which) inputs = own_reads r caller
few_reads r caller (word.LinkTo which) inputs = own_reads r caller
few_reads r caller which inputs = 0

abbrev pub few_reads_by : Rest → Owner → Option QueryWord → List Plain → ℕ
few_reads_by r caller None inputs = 0
few_reads_by r caller (Some which) inputs = few_reads r caller which inputs
