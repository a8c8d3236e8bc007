-- The calls of a store that change its world, as data: what each leaves, and when it may be made.
use Rattle.std.specs.Prelude.{◌≡◌, ℕ, ◌==◌, Bool, false, IsTrue, List, [], ◌∷◌, Option, IfSome}
use Rattle.std.specs.List.{list_any}
use Rattle.nl_value.specs.Plain.{Plain}
use Rattle.nl_grid.specs.Geometry.{IsPointOf}
use Rattle.nl_grid.specs.declared.point.Point.{Point}
use Rattle.nl_agents_layout.specs.Nouns.{Slot, BreedNumber}
use Rattle.nl_agents_layout.specs.Layouts.{is_turtle_breed, is_link_breed}
use Rattle.nl_agents.specs.World.{World}
use Rattle.nl_agents.specs.Changes.{TurtleLives, LinkLives, OwnerLives, moved, rebred, born, AreTurtlesFull, killed, cut, joins, tied, AreLinksFull, revalued, turtles_cleared, links_cleared, patches_cleared, globals_cleared}
use Rattle.nl_agents.specs.Standing.{MayHold}
use Rattle.nl_agents.specs.declared.agents.Owner.{Owner}
use Rattle.nl_agents.specs.declared.agents.Owner.TheVariants as owner

pub data Call : Type 0 where
  Bear : BreedNumber → Point → Option ℕ → Call
  Kill : ℕ → Call
  Shift : ℕ → Point → Call
  Rebreed : ℕ → BreedNumber → Call
  Tie : BreedNumber → Bool → ℕ → ℕ → Call
  Cut : ℕ → Call
  SetVar : Owner → Slot → Plain → Call
  ClearTurtles : Call
  ClearLinks : Call
  ClearPatches : Call
  ClearGlobals : Call

-- the world after a call that isn't refused
abbrev pub after : Call → World → World
after (Bear breed at parent) w = born breed at parent w
after (Kill turtle) w = killed turtle w
after (Shift turtle to) w = moved turtle to w
after (Rebreed turtle breed) w = rebred turtle breed w
after (Tie breed directed end1 end2) w = tied breed directed end1 end2 w
after (Cut link) w = cut link w
after (SetVar whose slot value) w = revalued whose slot value w
after ClearTurtles w = turtles_cleared w
after ClearLinks w = links_cleared w
after ClearPatches w = patches_cleared w
after ClearGlobals w = globals_cleared w

-- the call may be made, and isn't refused for want of room
abbrev pub IsAllowed : Call → World → Type 0
IsAllowed (Bear breed at parent) w =
    IsTrue (is_turtle_breed w.rest.layout breed)
    × IsPointOf w.rest.shape at
    × IfSome parent (λ serial. TurtleLives serial w)
    × (AreTurtlesFull w → ⊥)
IsAllowed (Kill turtle) w = TurtleLives turtle w
IsAllowed (Shift turtle to) w = TurtleLives turtle w × IsPointOf w.rest.shape to
IsAllowed (Rebreed turtle breed) w = TurtleLives turtle w × IsTrue (is_turtle_breed w.rest.layout breed)
IsAllowed (Tie breed directed end1 end2) w =
    IsTrue (is_link_breed w.rest.layout breed)
    × TurtleLives end1 w
    × TurtleLives end2 w
    × ((end1 == end2) ≡ false)
    × (list_any (joins breed directed end1 end2) w.rest.links ≡ false)
    × (AreLinksFull w → ⊥)
IsAllowed (Cut link) w = LinkLives link w
IsAllowed (SetVar whose slot value) w = OwnerLives whose w × MayHold w.rest whose slot value
IsAllowed ClearTurtles w = Unit {0}
IsAllowed ClearLinks w = Unit {0}
IsAllowed ClearPatches w = Unit {0}
IsAllowed ClearGlobals w = Unit {0}

-- the world after calls, each on what the one before left
abbrev pub after_all : List Call → World → World
after_all [] w = w
after_all (c ∷ cs) w = after_all cs (after c w)

abbrev pub AreAllowed : List Call → World → Type 0
AreAllowed [] w = Unit {0}
AreAllowed (c ∷ cs) w = IsAllowed c w × AreAllowed cs (after c w)

-- ---- what a call is on

abbrev IsPatch : Owner → Type 0
IsPatch (owner.Patch patch) = Unit {0}
IsPatch owner.Observer = ⊥
IsPatch (owner.Turtle serial) = ⊥
IsPatch (owner.Link serial) = ⊥

-- the call changes something that this owner has; births and deaths change nothing of who lives before and after
abbrev pub Touches : Call → Owner → Type 0
Touches (Bear breed at parent) whose = ⊥
Touches (Kill turtle) whose = ⊥
Touches (Shift turtle to) whose = whose ≡ owner.Turtle turtle
Touches (Rebreed turtle breed) whose = whose ≡ owner.Turtle turtle
Touches (Tie breed directed end1 end2) whose = ⊥
Touches (Cut link) whose = ⊥
Touches (SetVar other slot value) whose = whose ≡ other
Touches ClearTurtles whose = ⊥
Touches ClearLinks whose = ⊥
Touches ClearPatches whose = IsPatch whose
Touches ClearGlobals whose = whose ≡ owner.Observer
