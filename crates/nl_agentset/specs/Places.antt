-- Agents by where they stand, and what is told of where the caller stands.
use Rattle.std.specs.Prelude.{ℕ, ℤ, pos, int_lt, ◌&&◌, ◌||◌, Bool, true, false, if◌then◌else◌, List, [], ◌∷◌, map, Option, Some, None, option_map, is_some, Ok, Err}
use Rattle.nl_fixed.specs.Numbers.{sum_of, difference_of}
use Rattle.nl_fixed.specs.Sines.{sine_of, cosine_of}
use Rattle.nl_value.specs.Nouns.{Serials}
use Rattle.nl_value.specs.Sets.{set_kind}
use Rattle.nl_value.specs.Plain.{Plain, PlainNumber, PlainTruth, PlainItems, PlainSet, items_of}
use Rattle.nl_value.specs.declared.sets.AgentKind.{AgentKind}
use Rattle.nl_value.specs.declared.sets.AgentKind.TheVariants as kind
use Rattle.nl_value.specs.declared.sets.AgentSet.{AgentSet}
use Rattle.nl_grid.specs.Geometry.{Plane, patch_at, point_beside, point_ahead, wrapped_point, neighbors_of, neighbors4_of, distance_of, heading_between}
use Rattle.nl_grid.specs.declared.point.Point.{Point}
use Rattle.nl_agents_layout.specs.Nouns.{BreedNumber}
use Rattle.nl_agents.specs.World.{Rest}
use Rattle.nl_agents.specs.Members.{members_of, turtles_where, is_listed}
use Rattle.nl_agents.specs.declared.agents.Owner.{Owner}
use Rattle.nl_agents.specs.declared.agents.Owner.TheVariants as owner
use Rattle.nl_agentset_query.specs.Near.{members_where, members_within, members_in_cone}
use Rattle.nl_agentset_query.specs.declared.fail.QueryFail.TheVariants.{WrongType, OutOfWorld, SamePoint, Domain}
use Rattle.nl_agentset_query.specs.declared.words.Standing.{Standing}
use Rattle.nl_agentset_query.specs.declared.words.Standing.TheVariants as standing
use Rattle.nl_agentset_query.specs.declared.words.Around.{Around}
use Rattle.nl_agentset_query.specs.declared.words.Around.TheVariants as around
use Rattle.nl_agentset_query.specs.declared.words.PatchBy.{PatchBy}
use Rattle.nl_agentset_query.specs.declared.words.PatchBy.TheVariants as patch_by
use Rattle.nl_agentset_query.specs.declared.words.Facing.{Facing}
use Rattle.nl_agentset_query.specs.declared.words.Facing.TheVariants as facing
use Rattle.nl_agentset_query.specs.declared.words.Measure.{Measure}
use Rattle.nl_agentset_query.specs.declared.words.Measure.TheVariants as measure
use Rattle.nl_agentset_query.specs.Agents.{place_of, is_of, listed_value, agent_or_nobody, own_patch, heading_in}
use Rattle.nl_agentset_query.specs.Inputs.{value_at, number_at, list_at, standing_set_at, point_at, as_agent, as_number, standing_set, standing_at}
use Rattle.nl_agentset_query.specs.Outcomes.{QueryOutcome, and_then, outcome_map, summed, or_fail}

-- ---- turtles on patches

-- the turtles of the word's breed that stand on one of these patches
abbrev pub turtles_on : Rest → Option BreedNumber → List ℕ → Serials
turtles_on r breed patches = turtles_where (λ t. is_of breed t.breed && is_listed patches (patch_at r.shape t.at)) r

abbrev pub bred_on : Rest → Option BreedNumber → List ℕ → Plain
bred_on r breed patches = listed_value kind.Turtle (turtles_on r breed patches)

-- the patches of a set, or those on which its turtles stand
abbrev pub patches_under : Rest → AgentKind → Serials → List ℕ
patches_under r kind.Turtle numbers = map (λ serial. own_patch r (owner.Turtle serial)) numbers
patches_under r kind.Patch numbers = numbers
patches_under r kind.Link numbers = []

-- the patch on which one agent stands; a link stands nowhere
abbrev pub patches_of_agent : Rest → Plain → QueryOutcome (List ℕ)
patches_of_agent r value = and_then (as_agent r value) (λ agent. outcome_map (λ at. own_patch r agent ∷ []) (standing_at r agent))

-- the same of a set or of one agent
abbrev pub patches_of_value : Rest → Plain → QueryOutcome (List ℕ)
patches_of_value r (PlainSet agents) = outcome_map (λ some. patches_under r (set_kind some) (members_of r some)) (standing_set agents)
patches_of_value r value = patches_of_agent r value

-- ---- the patch at an offset

-- the patch of a point that may be outside of the world
abbrev pub patch_found : Plane → Option Point → Option ℕ
patch_found plane found = option_map (patch_at plane) found

abbrev pub patch_beside : Rest → Owner → ℤ → ℤ → QueryOutcome (Option ℕ)
patch_beside r caller dx dy = outcome_map (patch_found r.shape) (summed (point_beside r.shape (place_of r caller) dx dy))

abbrev pub patch_ahead : Rest → Owner → ℤ → ℤ → QueryOutcome (Option ℕ)
patch_ahead r caller heading distance = outcome_map (patch_found r.shape) (summed (point_ahead r.shape (place_of r caller) heading distance))

-- a patch or none, as a list
abbrev pub some_patch : Option ℕ → List ℕ
some_patch None = []
some_patch (Some patch) = patch ∷ []

-- ---- members at offsets

-- two numbers in a list
abbrev pub offset_in : List Plain → QueryOutcome (ℤ × ℤ)
offset_in (x ∷ y ∷ []) = and_then (as_number x) (λ dx. and_then (as_number y) (λ dy. Ok (dx, dy)))
offset_in items = Err WrongType

abbrev pub as_offset : Plain → QueryOutcome (ℤ × ℤ)
as_offset (PlainItems items) = offset_in (items_of items)
as_offset value = Err WrongType

-- all items as offsets, before any is used
abbrev pub offsets_in : List Plain → QueryOutcome (List (ℤ × ℤ))
offsets_in [] = Ok []
offsets_in (item ∷ items) = and_then (as_offset item) (λ offset. and_then (offsets_in items) (λ offsets. Ok (offset ∷ offsets)))

-- the patches at these offsets, those outside passed over
abbrev pub with_patch : Option ℕ → List ℕ → List ℕ
with_patch None patches = patches
with_patch (Some patch) patches = patch ∷ patches

abbrev pub patches_at : Rest → Owner → List (ℤ × ℤ) → QueryOutcome (List ℕ)
patches_at r caller [] = Ok []
patches_at r caller (offset ∷ offsets) =
    and_then (patch_beside r caller offset.0 offset.1) (λ found. and_then (patches_at r caller offsets) (λ patches. Ok (with_patch found patches)))

-- the members of a set of turtles or patches that stand on one of these patches
abbrev pub is_on_one : Plane → List ℕ → Point → Bool
is_on_one plane patches at = is_listed patches (patch_at plane at)

abbrev pub members_on : Rest → AgentSet → List ℕ → Plain
members_on r agents patches = listed_value (set_kind agents) (members_where (is_on_one r.shape patches) r agents)

-- ---- members near the caller: a negative radius or angle is Domain

abbrev pub near_caller : Rest → Owner → AgentSet → ℤ → QueryOutcome Plain
near_caller r caller agents radius =
    if int_lt radius (pos 0) then Err Domain
    else Ok (listed_value (set_kind agents) (members_within r agents (place_of r caller) radius))

abbrev pub in_cone_of_caller : Rest → Owner → AgentSet → ℤ → ℤ → QueryOutcome Plain
in_cone_of_caller r caller agents radius angle =
    if int_lt radius (pos 0) || int_lt angle (pos 0) then Err Domain
    else Ok (listed_value (set_kind agents) (members_in_cone r agents (place_of r caller) (heading_in r caller) radius angle))

-- ---- the words of sets by where agents stand

abbrev pub standing_by : Rest → Option BreedNumber → Owner → Standing → List Plain → QueryOutcome Plain
standing_by r breed caller standing.On inputs = and_then (value_at inputs 0) (λ value. outcome_map (bred_on r breed) (patches_of_value r value))
standing_by r breed caller standing.Here inputs = Ok (bred_on r breed (own_patch r caller ∷ []))
standing_by r breed caller standing.At inputs =
    and_then (number_at inputs 0) (λ dx. and_then (number_at inputs 1) (λ dy.
    outcome_map (λ found. bred_on r breed (some_patch found)) (patch_beside r caller dx dy)))
standing_by r breed caller standing.AtPoints inputs =
    and_then (standing_set_at inputs 0) (λ agents. and_then (list_at inputs 1) (λ items. and_then (offsets_in items) (λ offsets.
    outcome_map (members_on r agents) (patches_at r caller offsets))))
standing_by r breed caller standing.InRadius inputs =
    and_then (standing_set_at inputs 0) (λ agents. and_then (number_at inputs 1) (near_caller r caller agents))
standing_by r breed caller standing.InCone inputs =
    and_then (standing_set_at inputs 0) (λ agents. and_then (number_at inputs 1) (λ radius. and_then (number_at inputs 2) (in_cone_of_caller r caller agents radius)))

-- ---- patches around the caller

abbrev pub patches_around : Rest → Owner → Around → Plain
patches_around r caller around.Neighbors = listed_value kind.Patch (neighbors_of r.shape (own_patch r caller))
patches_around r caller around.Neighbors4 = listed_value kind.Patch (neighbors4_of r.shape (own_patch r caller))

-- one patch, or nobody outside
abbrev pub patch_or_nobody : QueryOutcome (Option ℕ) → QueryOutcome Plain
patch_or_nobody outcome = outcome_map (agent_or_nobody kind.Patch) outcome

-- the heading of a turtle, turned to the left or to the right by an angle
abbrev pub turned_by : Rest → Owner → Bool → ℤ → QueryOutcome ℤ
turned_by r caller to_left angle = summed (if to_left then difference_of (heading_in r caller) angle else sum_of (heading_in r caller) angle)

-- the patch ahead of a turtle, whose heading is turned first
abbrev pub turned_ahead : Rest → Owner → Bool → List Plain → QueryOutcome (Option ℕ)
turned_ahead r caller to_left inputs =
    and_then (number_at inputs 0) (λ angle. and_then (number_at inputs 1) (λ distance.
    and_then (turned_by r caller to_left angle) (λ heading. patch_ahead r caller heading distance)))

abbrev pub patch_reached : Rest → Owner → PatchBy → List Plain → QueryOutcome (Option ℕ)
patch_reached r caller patch_by.Here inputs = Ok (Some (own_patch r caller))
patch_reached r caller patch_by.At inputs = and_then (number_at inputs 0) (λ dx. and_then (number_at inputs 1) (patch_beside r caller dx))
patch_reached r caller patch_by.Ahead inputs = and_then (number_at inputs 0) (patch_ahead r caller (heading_in r caller))
patch_reached r caller patch_by.LeftAndAhead inputs = turned_ahead r caller true inputs
patch_reached r caller patch_by.RightAndAhead inputs = turned_ahead r caller false inputs
patch_reached r caller patch_by.HeadingAndDistance inputs = and_then (number_at inputs 0) (λ heading. and_then (number_at inputs 1) (patch_ahead r caller heading))

abbrev pub one_patch : Rest → Owner → PatchBy → List Plain → QueryOutcome Plain
one_patch r caller which inputs = patch_or_nobody (patch_reached r caller which inputs)

-- ---- what a turtle faces

abbrev pub faced : Rest → Owner → Facing → List Plain → QueryOutcome Plain
faced r caller facing.CanMove inputs =
    and_then (number_at inputs 0) (λ distance. outcome_map (λ found. PlainTruth (is_some found)) (patch_ahead r caller (heading_in r caller) distance))
faced r caller facing.Dx inputs = Ok (PlainNumber (sine_of (heading_in r caller)))
faced r caller facing.Dy inputs = Ok (PlainNumber (cosine_of (heading_in r caller)))

-- ---- distances and directions

abbrev pub measured : Plane → Measure → Point → Point → QueryOutcome Plain
measured plane measure.Distance from to = Ok (PlainNumber (pos (distance_of plane from to)))
measured plane measure.Towards from to = outcome_map PlainNumber (or_fail SamePoint (heading_between plane from to))

abbrev pub measured_to : Rest → Owner → Measure → List Plain → QueryOutcome Plain
measured_to r caller which inputs = and_then (point_at r inputs 0) (measured r.shape which (place_of r caller))

-- a point by its coordinates, wrapped first
abbrev pub measured_to_xy : Rest → Owner → Measure → List Plain → QueryOutcome Plain
measured_to_xy r caller which inputs =
    and_then (number_at inputs 0) (λ x. and_then (number_at inputs 1) (λ y.
    and_then (or_fail OutOfWorld (wrapped_point r.shape x y)) (measured r.shape which (place_of r caller))))
