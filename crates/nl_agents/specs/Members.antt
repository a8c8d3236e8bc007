-- The living members of sets of agents: filters of the world's lists, in ascending order.
use Rattle.std.specs.Prelude.{ℕ, ◌+◌, ◌==◌, ◌&&◌, Bool, not, if◌then◌else◌, map, filter, length}
use Rattle.std.specs.List.{list_any}
use Rattle.nl_value.specs.Nouns.{Serials}
use Rattle.nl_value.specs.declared.sets.AgentSet.{AgentSet}
use Rattle.nl_value.specs.declared.sets.AgentSet.TheVariants.{Turtles, Breed, Patches, Links, LinkBreed, SomeTurtles, SomePatches, SomeLinks}
use Rattle.nl_grid.specs.Geometry.{patch_at, all_patches}
use Rattle.nl_agents_layout.specs.Nouns.{BreedNumber}
use Rattle.nl_agents.specs.Changes.{has_end}
use Rattle.nl_agents.specs.World.{Rest}
use Rattle.nl_agents.specs.declared.agents.Turtle.{Turtle}
use Rattle.nl_agents.specs.declared.agents.Link.{Link}

-- the serials of the turtles, or links, that pass a test
abbrev pub turtles_where : (Turtle → Bool) → Rest → Serials
turtles_where test r = map (λ t. t.serial) (filter test r.turtles)

abbrev pub links_where : (Link → Bool) → Rest → Serials
links_where test r = map (λ l. l.serial) (filter test r.links)

-- the serials of all
abbrev pub all_turtles : Rest → Serials
all_turtles r = map (λ t. t.serial) r.turtles

abbrev pub all_links : Rest → Serials
all_links r = map (λ l. l.serial) r.links

abbrev pub is_of_breed : BreedNumber → Turtle → Bool
is_of_breed breed t = t.breed == breed

abbrev pub is_link_of_breed : BreedNumber → Link → Bool
is_link_of_breed breed l = l.breed == breed

-- the link is of no breed, and has a direction or has none, as is asked
abbrev pub is_unbreeded : (directed : Bool) → Link → Bool
is_unbreeded directed l = (l.breed == 0) && (if directed then l.directed else not l.directed)

-- the turtle stands on the patch
abbrev pub is_on : Rest → ℕ → Turtle → Bool
is_on r patch t = patch_at r.shape t.at == patch

-- the turtles of a breed and those on a patch; the links with the turtle as an end
abbrev pub turtles_of_breed : BreedNumber → Rest → Serials
turtles_of_breed breed = turtles_where (is_of_breed breed)

abbrev pub turtles_on : (patch : ℕ) → Rest → Serials
turtles_on patch r = turtles_where (is_on r patch) r

abbrev pub links_with_end : (turtle : ℕ) → Rest → Serials
links_with_end turtle = links_where (has_end turtle)

-- the number is in the list
abbrev pub is_listed : Serials → ℕ → Bool
is_listed numbers number = list_any (λ other. other == number) numbers

-- the members of a set that live
abbrev pub members_of : Rest → AgentSet → Serials
members_of r Turtles = all_turtles r
members_of r (Breed breed) = turtles_of_breed breed r
members_of r Patches = all_patches r.shape
members_of r Links = all_links r
members_of r (LinkBreed breed) = links_where (is_link_of_breed breed) r
members_of r (SomeTurtles numbers) = turtles_where (λ t. is_listed numbers t.serial) r
members_of r (SomePatches numbers) = filter (is_listed numbers) (all_patches r.shape)
members_of r (SomeLinks numbers) = links_where (λ l. is_listed numbers l.serial) r

-- how many records are read for them at most
abbrev pub most_reads : Rest → AgentSet → ℕ
most_reads r Turtles = length (all_turtles r) + 1
most_reads r (Breed breed) = length (turtles_of_breed breed r) + 1
most_reads r Patches = 0
most_reads r Links = length (all_links r) + 1
most_reads r (LinkBreed breed) = length (all_links r) + 1
most_reads r (SomeTurtles numbers) = 0
most_reads r (SomePatches numbers) = 0
most_reads r (SomeLinks numbers) = 0
