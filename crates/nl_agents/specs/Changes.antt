-- What the calls of a store answer and leave, over the plain lists.
use Rattle.std.specs.Prelude.{◌⊎◌, ℕ, zero, suc, ◌+◌, ◌-◌, ◌<◌, ◌≤◌, ◌==◌, ◌&&◌, ◌||◌, Bool, true, false, not, if◌then◌else◌, List, [], ◌∷◌, ◌++◌, map, filter, find, length, Option, Some, None, IsSome, is_some, nat_lt, slice_get, slice_set}
use Rattle.nl_value.specs.Plain.{Plain}
use Rattle.nl_grid.specs.Geometry.{patches_of}
use Rattle.nl_grid.specs.declared.point.Point.{Point}
use Rattle.nl_agents_layout.specs.Nouns.{Slot, Slots, BreedNumber}
use Rattle.nl_agents.specs.Nouns.{Vars}
use Rattle.nl_agents_layout.specs.BuiltIn.{zero_value}
use Rattle.nl_agents_layout.specs.Layouts.{turtle_owns, has_slot}
use Rattle.nl_agents.specs.World.{Rest, World, first_turtle_vars, first_link_vars, first_patches}
use Rattle.nl_agents_layout.specs.declared.layout.Layout.{Layout}
use Rattle.nl_agents.specs.declared.agents.Turtle.{Turtle}
use Rattle.nl_agents.specs.declared.agents.Link.{Link}
use Rattle.nl_agents.specs.declared.agents.Owner.{Owner}
use Rattle.nl_agents.specs.declared.agents.Owner.TheVariants as owner

-- ---- who lives

abbrev pub is_turtle : ℕ → Turtle → Bool
is_turtle serial t = t.serial == serial

abbrev pub is_link : ℕ → Link → Bool
is_link serial l = l.serial == serial

-- the living turtle, or link, of a serial
abbrev pub turtle_of : ℕ → Rest → Option Turtle
turtle_of serial r = find (is_turtle serial) r.turtles

abbrev pub link_of : ℕ → Rest → Option Link
link_of serial r = find (is_link serial) r.links

abbrev pub turtle_lives : Rest → ℕ → Bool
turtle_lives r serial = is_some (turtle_of serial r)

abbrev pub link_lives : Rest → ℕ → Bool
link_lives r serial = is_some (link_of serial r)

-- a turtle, or link, of the serial lives
abbrev pub TurtleLives : ℕ → World → Type 0
TurtleLives serial w = IsSome (turtle_of serial w.rest)

abbrev pub LinkLives : ℕ → World → Type 0
LinkLives serial w = IsSome (link_of serial w.rest)

abbrev pub OwnerLives : Owner → World → Type 0
OwnerLives owner.Observer w = Unit {0}
OwnerLives (owner.Turtle serial) w = TurtleLives serial w
OwnerLives (owner.Patch patch) w = patch < patches_of w.rest.shape
OwnerLives (owner.Link serial) w = LinkLives serial w

-- ---- variables

-- the value under a slot, of what an agent keeps under these
abbrev pub value_in : Slots → Vars → Slot → Option Plain
value_in [] vars slot = None
value_in (s ∷ ss) [] slot = None
value_in (s ∷ ss) (v ∷ vs) slot = if s == slot then v else value_in ss vs slot

-- a variable that the agent owns becomes the value
abbrev pub set_entry : Plain → Option Plain → Option Plain
set_entry value None = None
set_entry value (Some old) = Some value

abbrev pub value_set : Slots → Vars → Slot → Plain → Vars
value_set [] vars slot value = vars
value_set (s ∷ ss) [] slot value = []
value_set (s ∷ ss) (v ∷ vs) slot value = (if s == slot then set_entry value v else v) ∷ value_set ss vs slot value

-- the value of a global variable: after those of the model the number of the run and the name of the experiment
abbrev pub global_value : World → Slot → Option Plain
global_value w slot = slice_get (w.globals ++ w.rest.run) slot

abbrev pub global_set : Slot → Plain → World → World
global_set slot value w =
    if nat_lt slot (length w.globals)
    then record w { globals = slice_set w.globals slot value }
    else record w { rest = record w.rest { run = slice_set w.rest.run (slot - length w.globals) value } }

-- what an agent keeps, where it keeps anything
abbrev pub patch_vars : Rest → ℕ → Option Vars
patch_vars r patch = slice_get r.patches patch

abbrev pub in_turtle : Layout → Slot → Option Turtle → Option Plain
in_turtle layout slot None = None
in_turtle layout slot (Some t) = value_in layout.some_turtle t.vars slot

abbrev pub in_link : Layout → Slot → Option Link → Option Plain
in_link layout slot None = None
in_link layout slot (Some l) = value_in layout.some_link l.vars slot

abbrev pub in_patch : Layout → Slot → Option Vars → Option Plain
in_patch layout slot None = None
in_patch layout slot (Some vars) = value_in layout.every_patch vars slot

-- the value of a variable, where its owner lives and owns it
abbrev pub value_of : Owner → Slot → World → Option Plain
value_of owner.Observer slot w = global_value w slot
value_of (owner.Turtle serial) slot w = in_turtle w.rest.layout slot (turtle_of serial w.rest)
value_of (owner.Patch patch) slot w = in_patch w.rest.layout slot (patch_vars w.rest patch)
value_of (owner.Link serial) slot w = in_link w.rest.layout slot (link_of serial w.rest)

-- ---- changes of turtles

-- the rest is changed, and no global variable
abbrev pub on_rest : (Rest → Rest) → World → World
on_rest change w = record w { rest = change w.rest }

-- the turtle of a serial is changed, and no other
abbrev pub turtle_changed : (Turtle → Turtle) → ℕ → Rest → Rest
turtle_changed change serial r = record r { turtles = map (λ t. if is_turtle serial t then change t else t) r.turtles }

abbrev pub link_changed : (Link → Link) → ℕ → Rest → Rest
link_changed change serial r = record r { links = map (λ l. if is_link serial l then change l else l) r.links }

-- the turtle stands at the point
abbrev pub moved : ℕ → Point → World → World
moved serial to = on_rest (turtle_changed (λ t. record t { at = to }) serial)

-- A change of breed: what both breeds own keeps its value, what only the new one owns is 0, and the rest is gone.
abbrev pub bred_entry : Bool → Option Plain → Option Plain
bred_entry false old = None
bred_entry true None = Some zero_value
bred_entry true (Some value) = Some value

abbrev pub bred_entries : (Slot → Bool) → Slots → Vars → Vars
bred_entries owns [] vars = []
bred_entries owns (s ∷ ss) [] = []
bred_entries owns (s ∷ ss) (v ∷ vs) = bred_entry (owns s) v ∷ bred_entries owns ss vs

abbrev pub bred_vars : Layout → BreedNumber → Vars → Vars
bred_vars layout breed vars = bred_entries (turtle_owns layout breed) layout.some_turtle vars

abbrev pub rebred : ℕ → BreedNumber → World → World
rebred serial breed w =
    on_rest (turtle_changed (λ t. record t { breed = breed; vars = bred_vars w.rest.layout breed t.vars }) serial) w

-- ---- births

-- what a turtle keeps at its birth: first values, or those of its parent
abbrev pub birth_vars : Layout → BreedNumber → Option Turtle → Vars
birth_vars layout breed None = first_turtle_vars layout breed
birth_vars layout breed (Some parent) = bred_vars layout breed parent.vars

abbrev pub parent_of : Option ℕ → Rest → Option Turtle
parent_of None r = None
parent_of (Some serial) r = turtle_of serial r

abbrev pub newborn : BreedNumber → Point → Option ℕ → Rest → Turtle
newborn breed at parent r = record {
  serial = r.turtles_given;
  breed = breed;
  at = at;
  vars = birth_vars r.layout breed (parent_of parent r);
}

-- a turtle more, under the next serial
abbrev pub born : BreedNumber → Point → Option ℕ → World → World
born breed at parent =
    on_rest (λ r. record r { turtles = r.turtles ++ newborn breed at parent r ∷ []; turtles_given = r.turtles_given + 1 })

-- as many turtles live as may, or no serial is left
abbrev pub AreTurtlesFull : World → Type 0
AreTurtlesFull w = (200_000 ≤ length w.rest.turtles) ⊎ (9_000_000_000_000 ≤ w.rest.turtles_given)

-- ---- deaths

-- the link has the turtle as an end
abbrev pub has_end : ℕ → Link → Bool
has_end serial l = (l.end1 == serial) || (l.end2 == serial)

-- the turtle is gone, and each link with that end
abbrev pub killed : ℕ → World → World
killed serial = on_rest (λ r. record r {
  turtles = filter (λ t. not (is_turtle serial t)) r.turtles;
  links = filter (λ l. not (has_end serial l)) r.links;
})

-- the link is gone
abbrev pub cut : ℕ → World → World
cut serial = on_rest (λ r. record r { links = filter (λ l. not (is_link serial l)) r.links })

-- ---- links

-- the link joins the two the same way: one with a direction from the first to the second, one without either way round
abbrev pub joins : BreedNumber → Bool → ℕ → ℕ → Link → Bool
joins breed directed end1 end2 l =
    (l.breed == breed)
    && (if l.directed then directed else not directed)
    && (((l.end1 == end1) && (l.end2 == end2)) || (not directed && (l.end1 == end2) && (l.end2 == end1)))

abbrev pub new_link : BreedNumber → Bool → ℕ → ℕ → Rest → Link
new_link breed directed end1 end2 r = record {
  serial = r.links_given;
  breed = breed;
  directed = directed;
  end1 = end1;
  end2 = end2;
  vars = first_link_vars r.layout breed;
}

-- a link more, under the next serial
abbrev pub tied : BreedNumber → Bool → ℕ → ℕ → World → World
tied breed directed end1 end2 =
    on_rest (λ r. record r { links = r.links ++ new_link breed directed end1 end2 r ∷ []; links_given = r.links_given + 1 })

abbrev pub AreLinksFull : World → Type 0
AreLinksFull w = (400_000 ≤ length w.rest.links) ⊎ (9_000_000_000_000 ≤ w.rest.links_given)

-- ---- a variable is set

abbrev pub changed_at : (Vars → Vars) → ℕ → List Vars → List Vars
changed_at change patch [] = []
changed_at change zero (vars ∷ rest) = change vars ∷ rest
changed_at change (suc n) (vars ∷ rest) = vars ∷ changed_at change n rest

-- what the patch of a number keeps is changed, and nothing else
abbrev pub patch_changed : (Vars → Vars) → ℕ → Rest → Rest
patch_changed change patch r = record r { patches = changed_at change patch r.patches }

-- the variable becomes the value, where its owner owns it
abbrev pub revalued : Owner → Slot → Plain → World → World
revalued owner.Observer slot value w = global_set slot value w
revalued (owner.Turtle serial) slot value w =
    on_rest (turtle_changed (λ t. record t { vars = value_set w.rest.layout.some_turtle t.vars slot value }) serial) w
revalued (owner.Patch patch) slot value w =
    on_rest (patch_changed (λ vars. value_set w.rest.layout.every_patch vars slot value) patch) w
revalued (owner.Link serial) slot value w =
    on_rest (link_changed (λ l. record l { vars = value_set w.rest.layout.some_link l.vars slot value }) serial) w

-- ---- clears

-- no turtles and no links are left, and the next turtle is called 0
abbrev pub turtles_cleared : World → World
turtles_cleared = on_rest (λ r. record r { turtles = []; links = []; base = r.turtles_given })

abbrev pub links_cleared : World → World
links_cleared = on_rest (λ r. record r { links = [] })

-- the variables of patches have their first values
abbrev pub patches_cleared : World → World
patches_cleared = on_rest (λ r. record r { patches = first_patches r.layout r.shape })

-- the global variables that the code declares are 0; those of widgets stay
abbrev pub cleared_from : Slots → Slot → List Plain → List Plain
cleared_from coded slot [] = []
cleared_from coded slot (v ∷ vs) = (if has_slot coded slot then zero_value else v) ∷ cleared_from coded (slot + 1) vs

abbrev pub globals_cleared : World → World
globals_cleared w = record w { globals = cleared_from w.rest.layout.coded 0 w.globals }
