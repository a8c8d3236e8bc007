-- Counts that are kept beside the agents.
use Rattle.std.specs.Prelude.{◌≡◌, ℕ, ◌+◌, ◌==◌, ◌&&◌, Bool, not, List, filter, length, slice_index_or, if◌then◌else◌, cond}
use Rattle.nl_agents.specs.Members.{is_of_breed, is_unbreeded}
use Rattle.nl_agents.specs.declared.agents.Link.{Link}
use Rattle.nl_agents.specs.declared.agents.Turtle.{Turtle}
use Rattle.nl_store.specs.declared.census.Census.{Census}

-- the count of a breed, and 0 where there is none
abbrev pub count_at : Census → ℕ → ℕ
count_at c breed = slice_index_or c.breeds.items breed 0

-- the count of links of no breed with a direction, or without
abbrev pub plain_count : (directed : Bool) → Census → ℕ
plain_count directed c = if directed then c.directed else c.undirected

-- a link of the breed, with a direction or without, is of no breed, and has a direction or has none, as is asked
abbrev pub is_plain : (breed : ℕ) → (directed asked : Bool) → Bool
is_plain breed directed asked = (breed == 0) && (if asked then directed else not directed)

-- how many turtles are of a breed, and how many links are of none and have a direction, or have none
abbrev pub breed_many : ℕ → List Turtle → ℕ
breed_many breed turtles = length (filter (is_of_breed breed) turtles)

abbrev pub unbreeded : (directed : Bool) → List Link → ℕ
unbreeded directed links = length (filter (is_unbreeded directed) links)

-- there is a count for each of so many breeds, and all are 0
pub record CountsNone (breeds : ℕ) (c : Census) : Type 0 where
  pub many : length c.breeds.items ≡ breeds
  pub turtles : (breed : ℕ) → count_at c breed ≡ 0
  pub links : (directed : Bool) → plain_count directed c ≡ 0

-- the count of one breed is one more, and all else is what it was
pub record TurtleMore (breed : ℕ) (old new : Census) : Type 0 where
  pub many : length new.breeds.items ≡ length old.breeds.items
  pub turtles : (n : ℕ) → count_at new n ≡ count_at old n + cond (breed == n) 1 0
  pub links : (directed : Bool) → plain_count directed new ≡ plain_count directed old

-- it is one less
pub record TurtleLess (breed : ℕ) (old new : Census) : Type 0 where
  pub many : length new.breeds.items ≡ length old.breeds.items
  pub turtles : (n : ℕ) → count_at new n + cond (breed == n) 1 0 ≡ count_at old n
  pub links : (directed : Bool) → plain_count directed new ≡ plain_count directed old

-- a link more of this breed and direction is counted
pub record LinkMore (breed : ℕ) (directed : Bool) (old new : Census) : Type 0 where
  pub turtles : new.breeds.items ≡ old.breeds.items
  pub links : (asked : Bool) → plain_count asked new ≡ plain_count asked old + cond (is_plain breed directed asked) 1 0

-- and one less
pub record LinkLess (breed : ℕ) (directed : Bool) (old new : Census) : Type 0 where
  pub turtles : new.breeds.items ≡ old.breeds.items
  pub links : (asked : Bool) → plain_count asked new + cond (is_plain breed directed asked) 1 0 ≡ plain_count asked old

-- the counts are those of the turtles of each of so many breeds, and of the links of no breed with a direction and without
pub record AreCounts (c : Census) (breeds : ℕ) (turtles : List Turtle) (links : List Link) : Type 0 where
  pub many : length c.breeds.items ≡ breeds
  pub by_breed : (breed : ℕ) → count_at c breed ≡ breed_many breed turtles
  pub by_direction : (directed : Bool) → plain_count directed c ≡ unbreeded directed links
