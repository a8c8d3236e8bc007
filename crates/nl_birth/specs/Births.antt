-- The births of turtles, one after another: what each number of them leaves of the world and of the random stream.
use Rattle.std.specs.Prelude.{ℕ, zero, suc, ◌-◌, ℤ, pos, negsuc, Bool, true, false, Option, Some, None, length, min, option_map}
use Rattle.nl_fixed.specs.Numbers.{whole_part}
use Rattle.nl_grid.specs.Geometry.{center_of}
use Rattle.nl_grid.specs.declared.point.Point.{Point}
use Rattle.nl_agents_layout.specs.Nouns.{BreedNumber}
use Rattle.nl_agents.specs.World.{World}
use Rattle.nl_agents.specs.Changes.{turtle_of, born}
use Rattle.nl_birth.specs.Looks.{drawn_looks, looks_in_order, born_with}
use Rattle.nl_birth.specs.Outcomes.{BirthOutcome, outcome_of}

-- ---- how many

abbrev pub none_below_one : ℤ → ℕ
none_below_one (pos n) = n
none_below_one (negsuc n) = 0

-- how many agents a number makes: it is cut toward 0, and below 1 it makes none
abbrev pub count_of : ℤ → ℕ
count_of number = none_below_one (whole_part number)

-- how many more turtles can be born: as many as may still live, and as there are serials left
abbrev pub turtle_room : World → ℕ
turtle_room w = min (200_000 - length w.rest.turtles) (9_000_000_000_000 - w.rest.turtles_given)

-- ---- turtles without a parent

-- a world and the state of the random stream
pub record Scene : Type 0 where
  pub world : World
  pub stream : ℕ

-- the point at which created turtles stand
abbrev pub origin : Point
origin = record { x = pos 0; y = pos 0 }

-- a turtle is born at a point, and its looks are drawn
abbrev pub drawn_birth : BreedNumber → Point → Scene → Scene
drawn_birth breed at s =
    let looks = drawn_looks s.stream in
    record { world = born_with breed at looks.0 s.world; stream = looks.1 }

-- what so many such births leave
unfoldable pub drawn_births : BreedNumber → Point → Scene → ℕ → Scene
drawn_births breed at s zero = s
drawn_births breed at s (suc k) = drawn_birth breed at (drawn_births breed at s k)

-- what the first births of `count` turtles in order leave: the one of index k has the looks of that index. Nothing is drawn.
unfoldable pub ordered_births : BreedNumber → ℕ → World → ℕ → World
ordered_births breed count w zero = w
ordered_births breed count w (suc k) = born_with breed origin (looks_in_order count k) (ordered_births breed count w k)

-- the same beside the stream, which stays
abbrev pub ordered_scenes : BreedNumber → ℕ → Scene → ℕ → Scene
ordered_scenes breed count s k = record s { world = ordered_births breed count s.world k }

-- ---- turtles of a parent

abbrev pub point_or_origin : Option Point → Point
point_or_origin None = origin
point_or_origin (Some at) = at

-- where a turtle stands
abbrev pub birthplace : ℕ → World → Point
birthplace turtle w = point_or_origin (option_map (λ t. t.at) (turtle_of turtle w.rest))

-- what so many births of one parent leave, all at one point
unfoldable pub hatchings : BreedNumber → ℕ → Point → World → ℕ → World
hatchings breed parent at w zero = w
hatchings breed parent at w (suc k) = born breed at (Some parent) (hatchings breed parent at w k)

-- ---- the words

-- Births of a number of turtles: all are born, or as many as there is room for.
abbrev pub turtles_born : {X : Type 0} → (ℕ → X) → World → ℕ → BirthOutcome X
turtles_born after w count = outcome_of after (turtle_room w) w.rest.turtles_given count

-- what each number of created turtles leaves, in order or with looks that are drawn
abbrev pub creations : Bool → BreedNumber → ℕ → Scene → ℕ → Scene
creations false breed count s = drawn_births breed origin s
creations true breed count s = ordered_scenes breed count s

-- `create-turtles`, and `create-ordered-turtles`: at the point 0 0
abbrev pub created : Bool → BreedNumber → ℤ → Scene → BirthOutcome Scene
created ordered breed number s = turtles_born (creations ordered breed (count_of number) s) s.world (count_of number)

-- what each number of turtles that sprout on a patch leaves
abbrev pub sproutings : ℕ → BreedNumber → Scene → ℕ → Scene
sproutings patch breed s = drawn_births breed (center_of s.world.rest.shape patch) s

-- `sprout`: at the center of the patch
abbrev pub sprouted : ℕ → BreedNumber → ℤ → Scene → BirthOutcome Scene
sprouted patch breed number s = turtles_born (sproutings patch breed s) s.world (count_of number)

-- `hatch`: where the parent stands, with its variables
abbrev pub hatched : ℕ → BreedNumber → ℤ → World → BirthOutcome World
hatched parent breed number w =
    turtles_born (hatchings breed parent (birthplace parent w) w) w (count_of number)
