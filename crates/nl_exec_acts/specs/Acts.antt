-- What each act but a query does: a word that takes no block and wants no unit, once its inputs are there. The kinds of the inputs come first,
-- from left to right, then the word's own errors in their order. An act touches no global variable.
--
-- What the words do is by the NetLogo Dictionary. That a turn is refused where the sum of heading and angle is out of range, how random
-- coordinates are drawn, and the order of errors are this project's own choice.
use Rattle.std.specs.Prelude.{ℕ, ◌==◌, ◌&&◌, ◌^◌, ℤ, pos, ◌+ℤ◌, ◌*ℤ◌, int_lt, unsigned_abs, Bool, true, false, if◌then◌else◌, List, map, codes, Option, Some, None, is_some, Result, Ok, Err, slice_get}
use Rattle.std.specs.Bool.{beq}
use Rattle.std.specs.Int.{int_rem_euclid}
use Rattle.nl_fixed.specs.declared.number.NumFault.{NumFault}
use Rattle.nl_fixed.specs.Numbers.{one, sum_of, difference_of, whole_part}
use Rattle.nl_fixed.specs.Sines.{degrees}
use Rattle.nl_words.specs.Row.{Code}
use Rattle.nl_words.specs.declared.codes.TheConstants.{HIDDEN, PEN_MODE}
use Rattle.nl_value.specs.Plain.{Plain, PlainNumber, PlainTruth, PlainWords, PlainItems, PlainTurtle, PlainPatch, PlainLink, PlainNobody, PlainSet, plains}
use Rattle.nl_value.specs.Living.{same_kind}
use Rattle.nl_value.specs.Order.{comes_first}
use Rattle.nl_value.specs.Sets.{set_kind}
use Rattle.nl_value.specs.Sorting.{sorted_by}
use Rattle.nl_value.specs.declared.sets.AgentKind.{AgentKind}
use Rattle.nl_value.specs.declared.sets.AgentKind.TheVariants as kind
use Rattle.nl_value.specs.declared.sets.AgentSet.{AgentSet}
use Rattle.nl_grid.specs.Geometry.{Plane, side, begin_of, length_of, wrapped_point, heading_between}
use Rattle.nl_grid.specs.declared.axis.Axis.{Axis}
use Rattle.nl_grid.specs.declared.point.Point.{Point}
use Rattle.nl_draw.specs.Stream.{first_state, drawn}
use Rattle.nl_listops.specs.declared.words.ValueWord.{ValueWord}
use Rattle.nl_listops.specs.declared.words.ValueWord.TheVariants as value
use Rattle.nl_listops.specs.declared.words.OfList.TheVariants as whole
use Rattle.nl_listops.specs.declared.words.Search.TheVariants as search_for
use Rattle.nl_listops.specs.Answers.{word_answer}
use Rattle.nl_agents_layout.specs.Nouns.{Slot}
use Rattle.nl_agents_layout.specs.BuiltIn.{slot_of_code}
use Rattle.nl_agents.specs.World.{Rest, World}
use Rattle.nl_agents.specs.Changes.{link_of, turtle_lives, link_lives, value_of, moved, revalued, turtles_cleared, links_cleared, patches_cleared}
use Rattle.nl_agents.specs.Members.{members_of, is_listed}
use Rattle.nl_agents.specs.Names.{living_of}
use Rattle.nl_agents.specs.declared.agents.Link as the_link
use Rattle.nl_agents.specs.declared.agents.Owner.{Owner}
use Rattle.nl_agents.specs.declared.agents.Owner.TheVariants as owner
use Rattle.nl_agentset_query.specs.Agents.{place_of}
use Rattle.nl_agentset_query.specs.Inputs.{value_at, number_at, set_at, point_at}
use Rattle.nl_agentset_query.specs.Outcomes.{QueryOutcome as Queried}
use Rattle.nl_agentset_query.specs.Agents.{heading_in}
use Rattle.nl_agentset_query.specs.Agents.{agent_value}
use Rattle.nl_motion.specs.Motion.{step_end, moved_to}
use Rattle.nl_motion.specs.Climbing.{headed}
use Rattle.nl_exec_acts.specs.declared.fail.ErrorKind.TheVariants.{WrongType, Overflow, Domain, NoAgent, WrongContext, OutOfWorld, TicksOff}
use Rattle.nl_exec_acts.specs.declared.words.SetWord.{SetWord}
use Rattle.nl_exec_acts.specs.declared.words.SetWord.TheVariants as set_words
use Rattle.nl_exec_acts.specs.declared.words.Whom.{Whom}
use Rattle.nl_exec_acts.specs.declared.words.Whom.TheVariants.{Caller, Asker, OtherEnd}
use Rattle.nl_exec_acts.specs.declared.words.Move.{Move}
use Rattle.nl_exec_acts.specs.declared.words.Move.TheVariants as move
use Rattle.nl_exec_acts.specs.declared.words.Look.{Look}
use Rattle.nl_exec_acts.specs.declared.words.Look.TheVariants.{Hide, Show, PenUp, PenDown, PenErase}
use Rattle.nl_exec_acts.specs.declared.words.Clock.{Clock}
use Rattle.nl_exec_acts.specs.declared.words.Clock.TheVariants as clock
use Rattle.nl_exec_acts.specs.declared.words.Clear.{Clear}
use Rattle.nl_exec_acts.specs.declared.words.Clear.TheVariants as clear
use Rattle.nl_exec_acts.specs.declared.words.Spot.{Spot}
use Rattle.nl_exec_acts.specs.declared.words.Spot.TheVariants as spot
use Rattle.nl_exec_acts.specs.declared.words.Bound.{Bound}
use Rattle.nl_exec_acts.specs.declared.words.Bound.TheVariants as bound
use Rattle.nl_exec_acts.specs.declared.words.OfRun.{OfRun}
use Rattle.nl_exec_acts.specs.declared.words.OfRun.TheVariants as of_run
use Rattle.nl_exec_acts.specs.Stage.{Stage, bare, changed, changed_rest, ActOutcome, and_then, outcome_map}
use Rattle.nl_exec_acts.specs.Fails.{error_of_number, error_of_list, error_of_query, told_as}

-- ---- what an act comes to

-- an answer that leaves the stage as it was
abbrev pub answers : Plain → Stage → ActOutcome (Plain × Stage)
answers value st = Ok (value, st)

-- a command gives nobody, which nobody sees, beside the stage after it
abbrev pub does : Stage → ActOutcome (Plain × Stage)
does st = Ok (PlainNobody, st)

-- a command that changes nothing but the rest of the world
abbrev pub on_stage : Stage → ActOutcome Rest → ActOutcome (Plain × Stage)
on_stage st outcome = and_then outcome (λ r. does (record st { rest = r }))

-- an answer beside the state of the stream after it
abbrev pub with_stream : Stage → Plain × ℕ → Plain × Stage
with_stream st answer = (answer.0, record st { stream = answer.1 })

-- the number, or the point of a turtle or patch, that is the input at a place
abbrev pub number_of_input : List Plain → ℕ → ActOutcome ℤ
number_of_input inputs at = told_as error_of_query (number_at inputs at)

abbrev pub point_of_input : Rest → List Plain → ℕ → ActOutcome Point
point_of_input r inputs at = told_as error_of_query (point_at r inputs at)

-- ---- words of values

-- the living members of a set, in the order of agents
abbrev pub members_in_order : Rest → AgentSet → List Plain
members_in_order r set = sorted_by (comes_first (living_of r)) (map (agent_value (set_kind set)) (members_of r set))

-- the value is a living member of the set
abbrev pub is_agent_in : Rest → AgentKind → ℕ → AgentSet → Bool
is_agent_in r which number set = same_kind (set_kind set) which && is_listed (members_of r set) number

abbrev pub is_member : Rest → Plain → AgentSet → Bool
is_member r (PlainTurtle turtle) set = is_agent_in r kind.Turtle turtle set
is_member r (PlainPatch patch) set = is_agent_in r kind.Patch patch set
is_member r (PlainLink link) set = is_agent_in r kind.Link link set
is_member r (PlainNumber count) set = false
is_member r (PlainTruth truth) set = false
is_member r (PlainWords bytes) set = false
is_member r (PlainItems items) set = false
is_member r PlainNobody set = false
is_member r (PlainSet members) set = false

-- what `sort` answers of a set, and `member?` of a value and a set, where they are given one
abbrev pub members_by : Rest → Queried AgentSet → Option Plain
members_by r (Ok set) = Some (PlainItems (plains (members_in_order r set)))
members_by r (Err fail) = None

abbrev pub member_by : Rest → Queried Plain → Queried AgentSet → Option Plain
member_by r (Ok value) (Ok set) = Some (PlainTruth (is_member r value set))
member_by r (Ok value) (Err fail) = None
member_by r (Err fail) set = None

-- other words of values take no set
abbrev pub set_word : ValueWord → Option SetWord
set_word (value.OfList whole.Sort) = Some set_words.Sort
set_word (value.Search search_for.Member) = Some set_words.Member
set_word which = None

abbrev pub of_set : Rest → Option SetWord → List Plain → Option Plain
of_set r (Some set_words.Sort) inputs = members_by r (set_at inputs 0)
of_set r (Some set_words.Member) inputs = member_by r (value_at inputs 0) (set_at inputs 1)
of_set r None inputs = None

-- the answer beside the state of the stream after it
abbrev pub valued_or : Rest → ValueWord → List Plain → ℕ → Option Plain → ActOutcome (Plain × ℕ)
valued_or r which inputs state (Some answer) = Ok (answer, state)
valued_or r which inputs state None = told_as error_of_list (word_answer (living_of r) which inputs state)

abbrev pub valued : Rest → ValueWord → List Plain → ℕ → ActOutcome (Plain × ℕ)
valued r which inputs state = valued_or r which inputs state (of_set r (set_word which) inputs)

-- ---- who runs, and who asked

-- the agent that runs has died
abbrev pub is_gone : Rest → Owner → Bool
is_gone r owner.Observer = false
is_gone r (owner.Turtle turtle) = if turtle_lives r turtle then false else true
is_gone r (owner.Patch patch) = false
is_gone r (owner.Link link) = if link_lives r link then false else true

abbrev pub agent_or_none : Owner → ActOutcome Plain
agent_or_none owner.Observer = Err NoAgent
agent_or_none (owner.Turtle turtle) = Ok (PlainTurtle turtle)
agent_or_none (owner.Patch patch) = Ok (PlainPatch patch)
agent_or_none (owner.Link link) = Ok (PlainLink link)

-- the end of a link that isn't the turtle, where the turtle is an end
abbrev pub end_beside : ℕ → Option the_link.Link → ActOutcome Plain
end_beside turtle None = Err NoAgent
end_beside turtle (Some l) =
    if l.end1 == turtle then Ok (PlainTurtle l.end2)
    else (if l.end2 == turtle then Ok (PlainTurtle l.end1)
    else Err NoAgent)

-- a turtle that is asked by its link, or a link that is asked by its end, has another end there
abbrev pub other_end : Rest → Owner → Owner → ActOutcome Plain
other_end r (owner.Turtle turtle) (owner.Link link) = end_beside turtle (link_of link r)
other_end r (owner.Link link) (owner.Turtle turtle) = end_beside turtle (link_of link r)
other_end r agent asker = Err NoAgent

abbrev pub whom : Rest → Owner → Owner → Whom → ActOutcome Plain
whom r agent asker Caller = agent_or_none agent
whom r agent asker Asker = agent_or_none asker
whom r agent asker OtherEnd = other_end r agent asker

-- ---- directions of links

abbrev pub link_is : Bool → Option the_link.Link → Bool
link_is directed None = false
link_is directed (Some l) = beq l.directed directed

-- a living link with a direction, or one without
abbrev pub is_link : Rest → Bool → Plain → Bool
is_link r directed (PlainLink link) = link_is directed (link_of link r)
is_link r directed value = false

-- ---- motion

-- a word of turtles is run by none but them
abbrev pub turtle_in : Owner → ActOutcome ℕ
turtle_in (owner.Turtle turtle) = Ok turtle
turtle_in agent = Err WrongContext

-- one that lives
abbrev pub living_turtle : Rest → Owner → ActOutcome ℕ
living_turtle r agent =
    and_then (turtle_in agent) (λ turtle. if turtle_lives r turtle then Ok turtle else Err WrongContext)

-- a step that the world forbids isn't made, and isn't refused
abbrev pub stepped_by : ℕ → Rest → Result (Option Point) NumFault → ActOutcome Rest
stepped_by turtle r (Ok to) = Ok (changed_rest (moved_to turtle to) r)
stepped_by turtle r (Err fault) = Err Overflow

abbrev pub jumped : ℕ → Rest → ℤ → ActOutcome Rest
jumped turtle r by = stepped_by turtle r (step_end turtle by (bare r))

-- the point of these coordinates, moved inside where the world wraps
abbrev pub inside_or_out : Option Point → ActOutcome Point
inside_or_out None = Err OutOfWorld
inside_or_out (Some at) = Ok at

abbrev pub point_inside : Rest → ℤ → ℤ → ActOutcome Point
point_inside r x y = inside_or_out (wrapped_point r.shape x y)

abbrev pub gone_to : ℕ → Rest → Point → ActOutcome Rest
gone_to turtle r at = Ok (changed_rest (moved turtle at) r)

-- it looks at the point; at its own point its heading stays
abbrev pub faced : ℕ → Rest → Point → ActOutcome Rest
faced turtle r at = Ok (changed_rest (headed turtle (heading_between r.shape (place_of r (owner.Turtle turtle)) at)) r)

-- the heading becomes the angle, less whole turns
abbrev pub turned_to : ℕ → Rest → ℤ → ActOutcome Rest
turned_to turtle r angle = Ok (changed_rest (headed turtle (Some (int_rem_euclid angle (degrees (pos 360))))) r)

abbrev pub turned : ℕ → Rest → Result ℤ NumFault → ActOutcome Rest
turned turtle r angle = and_then (told_as error_of_number angle) (turned_to turtle r)

abbrev pub two_numbers : {X : Type 0} → List Plain → (ℤ → ℤ → ActOutcome X) → ActOutcome X
two_numbers inputs next = and_then (number_of_input inputs 0) (λ x. and_then (number_of_input inputs 1) (next x))

abbrev pub moves : Move → ℕ → List Plain → Rest → ActOutcome Rest
moves move.Jump turtle inputs r = and_then (number_of_input inputs 0) (jumped turtle r)
moves move.SetXy turtle inputs r = two_numbers inputs (λ x y. and_then (point_inside r x y) (gone_to turtle r))
moves move.Home turtle inputs r = and_then (point_inside r (pos 0) (pos 0)) (gone_to turtle r)
moves move.MoveTo turtle inputs r = and_then (point_of_input r inputs 0) (gone_to turtle r)
moves move.Face turtle inputs r = and_then (point_of_input r inputs 0) (faced turtle r)
moves move.FaceXy turtle inputs r = two_numbers inputs (λ x y. and_then (point_inside r x y) (faced turtle r))
moves move.Right turtle inputs r = and_then (number_of_input inputs 0) (λ n. turned turtle r (sum_of (heading_in r (owner.Turtle turtle)) n))
moves move.Left turtle inputs r = and_then (number_of_input inputs 0) (λ n. turned turtle r (difference_of (heading_in r (owner.Turtle turtle)) n))

abbrev pub moved_by : Move → Owner → List Plain → Rest → ActOutcome Rest
moved_by which agent inputs r = and_then (living_turtle r agent) (λ turtle. moves which turtle inputs r)

-- ---- how agents are drawn

-- a living turtle or link; no other agent is drawn so
abbrev pub is_drawn : Rest → Owner → Bool
is_drawn r (owner.Turtle turtle) = turtle_lives r turtle
is_drawn r (owner.Link link) = link_lives r link
is_drawn r owner.Observer = false
is_drawn r (owner.Patch patch) = false

-- the variable becomes the value, where the agent owns it
abbrev pub set_owned : Owner → Slot → Plain → World → World
set_owned agent slot new w = if is_some (value_of agent slot w) then revalued agent slot new w else w

abbrev pub slot_set : Option Slot → Plain → Owner → World → World
slot_set None new agent w = w
slot_set (Some slot) new agent w = set_owned agent slot new w

-- the built-in variable that is set, by its code, and what it becomes
abbrev pub look_code : Look → Code
look_code Hide = HIDDEN
look_code Show = HIDDEN
look_code PenUp = PEN_MODE
look_code PenDown = PEN_MODE
look_code PenErase = PEN_MODE

abbrev pub look_value : Look → Plain
look_value Hide = PlainTruth true
look_value Show = PlainTruth false
look_value PenUp = PlainWords (codes "up")
look_value PenDown = PlainWords (codes "down")
look_value PenErase = PlainWords (codes "erase")

abbrev pub look_of : Look → Owner → World → World
look_of which agent w = slot_set (slot_of_code (look_code which)) (look_value which) agent w

abbrev pub looks : Look → Owner → Rest → ActOutcome Rest
looks which agent r = if is_drawn r agent then Ok (changed_rest (look_of which agent) r) else Err WrongContext

-- ---- the clock: the answer, and the ticks after it

abbrev pub ticks_or_off : Option ℤ → ActOutcome ℤ
ticks_or_off None = Err TicksOff
ticks_or_off (Some count) = Ok count

abbrev pub set_to : Option ℤ → ActOutcome (Plain × Option ℤ)
set_to now = Ok (PlainNobody, now)

abbrev pub advanced : ℤ → ℤ → ActOutcome (Plain × Option ℤ)
advanced by now = and_then (told_as error_of_number (sum_of now by)) (λ then_is. set_to (Some then_is))

-- no time runs back; that the clock is off is told first
abbrev pub forward_or_not : ℤ → ActOutcome ℤ
forward_or_not by = if int_lt by (pos 0) then Err Domain else Ok by

abbrev pub advanced_by : ℤ → Option ℤ → ActOutcome (Plain × Option ℤ)
advanced_by by ticks = and_then (ticks_or_off ticks) (λ now. and_then (forward_or_not by) (λ n. advanced n now))

abbrev pub clocked : Clock → List Plain → Option ℤ → ActOutcome (Plain × Option ℤ)
clocked clock.Reset inputs ticks = set_to (Some (pos 0))
clocked clock.Clear inputs ticks = set_to None
clocked clock.Advance inputs ticks = and_then (ticks_or_off ticks) (advanced (pos one))
clocked clock.AdvanceBy inputs ticks = and_then (number_of_input inputs 0) (λ n. advanced_by n ticks)
clocked clock.Ticks inputs ticks = and_then (ticks_or_off ticks) (λ now. Ok (PlainNumber now, ticks))

abbrev pub at_ticks : Stage → Plain × Option ℤ → Plain × Stage
at_ticks st answer = (answer.0, record st { ticks = answer.1 })

-- ---- clears

abbrev pub cleared : Clear → World → World
cleared clear.Turtles = turtles_cleared
cleared clear.Links = links_cleared
cleared clear.Patches = patches_cleared

-- ---- the seed of the stream: the whole part of a number, modulo 2 ^ 64

abbrev pub seed_of : ℤ → ℕ
seed_of number = unsigned_abs (int_rem_euclid (whole_part number) (pos (2 ^ 64)))

abbrev pub seeded : ℤ → Stage → ActOutcome (Plain × Stage)
seeded number st = does (record st { stream = first_state (seed_of number) })

-- ---- random coordinates: of a patch, or of a point, which lies from where the axis begins to below its end

abbrev pub axis_of : Spot → Plane → Axis
axis_of spot.Pxcor plane = plane.x
axis_of spot.Pycor plane = plane.y
axis_of spot.Xcor plane = plane.x
axis_of spot.Ycor plane = plane.y

abbrev pub drawn_patch : Axis → ℕ → Plain × ℕ
drawn_patch axis state = let n = drawn (side axis) state in (PlainNumber ((axis.least +ℤ pos n.0) *ℤ pos one), n.1)

abbrev pub drawn_point : Axis → ℕ → Plain × ℕ
drawn_point axis state = let n = drawn (length_of axis) state in (PlainNumber (begin_of axis +ℤ pos n.0), n.1)

abbrev pub drawn_spot : Spot → Axis → ℕ → Plain × ℕ
drawn_spot spot.Pxcor = drawn_patch
drawn_spot spot.Pycor = drawn_patch
drawn_spot spot.Xcor = drawn_point
drawn_spot spot.Ycor = drawn_point

-- ---- the bounds of the world, and what a run is

abbrev pub bound_of : Bound → Plane → ℤ
bound_of bound.MinPxcor plane = plane.x.least
bound_of bound.MaxPxcor plane = plane.x.greatest
bound_of bound.MinPycor plane = plane.y.least
bound_of bound.MaxPycor plane = plane.y.greatest
bound_of bound.Width plane = pos (side plane.x)
bound_of bound.Height plane = pos (side plane.y)

abbrev pub place_of_run : OfRun → ℕ
place_of_run of_run.Number = 0
place_of_run of_run.Experiment = 1

abbrev pub told_or_wrong : Option Plain → ActOutcome Plain
told_or_wrong None = Err WrongType
told_or_wrong (Some value) = Ok value

-- ---- each kind of act, on the stage

abbrev pub value_told : ValueWord → List Plain → Stage → ActOutcome (Plain × Stage)
value_told which inputs st = outcome_map (with_stream st) (valued st.rest which inputs st.stream)

abbrev pub whom_told : Whom → Owner → Owner → Stage → ActOutcome (Plain × Stage)
whom_told which agent asker st = and_then (whom st.rest agent asker which) (λ value. answers value st)

abbrev pub is_link_told : Bool → List Plain → Stage → ActOutcome (Plain × Stage)
is_link_told directed inputs st = and_then (told_or_wrong (slice_get inputs 0)) (λ value. answers (PlainTruth (is_link st.rest directed value)) st)

abbrev pub move_told : Move → Owner → List Plain → Stage → ActOutcome (Plain × Stage)
move_told which agent inputs st = on_stage st (moved_by which agent inputs st.rest)

abbrev pub look_told : Look → Owner → Stage → ActOutcome (Plain × Stage)
look_told which agent st = on_stage st (looks which agent st.rest)

abbrev pub clock_told : Clock → List Plain → Stage → ActOutcome (Plain × Stage)
clock_told which inputs st = outcome_map (at_ticks st) (clocked which inputs st.ticks)

abbrev pub clear_told : Clear → Stage → ActOutcome (Plain × Stage)
clear_told which st = does (changed (cleared which) st)

abbrev pub seed_told : List Plain → Stage → ActOutcome (Plain × Stage)
seed_told inputs st = and_then (number_of_input inputs 0) (λ n. seeded n st)

abbrev pub spot_told : Spot → Stage → ActOutcome (Plain × Stage)
spot_told which st = Ok (with_stream st (drawn_spot which (axis_of which st.rest.shape) st.stream))

abbrev pub bound_told : Bound → Stage → ActOutcome (Plain × Stage)
bound_told which st = answers (PlainNumber (bound_of which st.rest.shape *ℤ pos one)) st

abbrev pub run_told : OfRun → Stage → ActOutcome (Plain × Stage)
run_told which st = and_then (told_or_wrong (slice_get st.rest.run (place_of_run which))) (λ value. answers value st)
