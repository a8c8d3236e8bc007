-- Where turtles go. The rules are those of the NetLogo Dictionary; that products are rounded, and that a step goes by a table of sines, is
-- this project's own choice.
use Rattle.std.specs.Prelude.{ℕ, ℤ, pos, Bool, true, false, Option, Some, None, Result, Ok, Err}
use Rattle.nl_fixed.specs.declared.number.NumFault.{NumFault}
use Rattle.nl_value.specs.Plain.{Plain, PlainNumber, PlainTruth, PlainWords, PlainItems, PlainTurtle, PlainPatch, PlainLink, PlainNobody, PlainSet}
use Rattle.nl_grid.specs.Geometry.{point_ahead, wrapped_point}
use Rattle.nl_grid.specs.declared.point.Point.{Point}
use Rattle.nl_agents_layout.specs.BuiltIn.{heading_slot}
use Rattle.nl_agents.specs.World.{Rest, World}
use Rattle.nl_agents.specs.Changes.{turtle_of, value_in, moved}
use Rattle.nl_agents.specs.declared.agents.Turtle.{Turtle}
use Rattle.nl_motion.specs.declared.faults.MoveFault.{MoveFault}
use Rattle.nl_motion.specs.declared.faults.MoveFault.TheVariants as fault

-- the count of a value that is a number
abbrev pub held_number : Option Plain → Option ℤ
held_number None = None
held_number (Some (PlainNumber count)) = Some count
held_number (Some (PlainTruth truth)) = None
held_number (Some (PlainWords bytes)) = None
held_number (Some (PlainItems items)) = None
held_number (Some (PlainTurtle turtle)) = None
held_number (Some (PlainPatch patch)) = None
held_number (Some (PlainLink link)) = None
held_number (Some PlainNobody) = None
held_number (Some (PlainSet set)) = None

-- the number that is there, or 0
abbrev pub or_zero : Option ℤ → ℤ
or_zero None = pos 0
or_zero (Some count) = count

-- ---- steps

-- the heading of a turtle; one that keeps none has the heading 0
abbrev pub heading_in : Rest → Turtle → ℤ
heading_in r t = or_zero (held_number (value_in r.layout.some_turtle t.vars heading_slot))

-- the point so far ahead of a turtle, none where the world forbids it
abbrev pub step_point : ℤ → Rest → Option Turtle → Result (Option Point) NumFault
step_point by r None = Ok None
step_point by r (Some t) = point_ahead r.shape t.at (heading_in r t) by

-- the point to which a step leads the turtle of a serial
abbrev pub step_end : ℕ → ℤ → World → Result (Option Point) NumFault
step_end turtle by w = step_point by w.rest (turtle_of turtle w.rest)

-- what a step answers: whether it was made, or that a sum was out of range
abbrev pub step_answer : Result (Option Point) NumFault → Result Bool MoveFault
step_answer (Ok (Some to)) = Ok true
step_answer (Ok None) = Ok false
step_answer (Err why) = Err fault.Overflow

-- the turtle goes to the point, where there is one
abbrev pub moved_to : ℕ → Option Point → World → World
moved_to turtle None w = w
moved_to turtle (Some to) w = moved turtle to w

-- the world after a step: a step that isn't made leaves it as it was
abbrev pub stepped_to : ℕ → Result (Option Point) NumFault → World → World
stepped_to turtle (Ok to) w = moved_to turtle to w
stepped_to turtle (Err why) w = w

abbrev pub stepped : ℕ → ℤ → World → World
stepped turtle by w = stepped_to turtle (step_end turtle by w) w

-- ---- places

-- what a place answers: coordinates that are outside on an axis that doesn't wrap are refused
abbrev pub place_answer : Option Point → Result (Unit {0}) MoveFault
place_answer None = Err fault.OutOfWorld
place_answer (Some to) = Ok tt

-- the turtle stands at the point of these coordinates, where there is one
abbrev pub placed : ℕ → ℤ → ℤ → World → World
placed turtle x y w = moved_to turtle (wrapped_point w.rest.shape x y) w
