-- Variables: what is read, and what is set. Which variables agents have, and what each may hold, is the NetLogo Dictionary's; that a turtle reads
-- and sets the variables of its patch by their names, too.
use Rattle.std.specs.Prelude.{ℕ, zero, suc, ◌*◌, ℤ, pos, ◌*ℤ◌, ◌++◌, Bool, true, false, if◌then◌else◌, List, [], ◌∷◌, Option, Some, None, Result, slice_get, slice_set, option_map}
use Rattle.std.specs.Int.{int_rem_euclid}
use Rattle.std.specs.Option.{option_and_then}
use Rattle.std.specs.Str.{bytes_eq}
use Rattle.nl_fixed.specs.Nouns.{Name}
use Rattle.nl_fixed.specs.Numbers.{one}
use Rattle.nl_fixed.specs.Sines.{degrees}
use Rattle.nl_fixed.specs.declared.span.Span.{Span}
use Rattle.nl_words.specs.declared.entry.Kinds.{Kinds}
use Rattle.nl_value.specs.Plain.{Plain, PlainNumber, PlainTruth, PlainWords, PlainTurtle, PlainSet}
use Rattle.nl_value.specs.declared.sets.AgentSet.TheVariants as set
use Rattle.nl_grid.specs.Geometry.{patch_at, pxcor_of, pycor_of}
use Rattle.nl_grid.specs.declared.point.Point.{Point}
use Rattle.nl_agents_layout.specs.Nouns.{Slot, BreedNumber}
use Rattle.nl_agents_layout.specs.BuiltIn.{rule_of}
use Rattle.nl_agents_layout.specs.Layouts.{has_slot, is_turtle_breed}
use Rattle.nl_agents.specs.World.{Rest}
use Rattle.nl_agents.specs.Changes.{turtle_of, link_of, value_of, revalued, moved, rebred}
use Rattle.nl_agents.specs.Names.{who_of}
use Rattle.nl_agents.specs.declared.agents.Turtle as the_turtle
use Rattle.nl_agents.specs.declared.agents.Link as the_link
use Rattle.nl_agents.specs.declared.agents.Owner.{Owner}
use Rattle.nl_agents.specs.declared.agents.Owner.TheVariants as owner
use Rattle.nl_agents_layout.specs.declared.rule.Rule.{Rule}
use Rattle.nl_agents_layout.specs.declared.rule.Rule.TheVariants as rule
use Rattle.nl_agentset_query.specs.Agents.{place_of}
use Rattle.nl_exec_acts.specs.declared.fail.ErrorKind.{ErrorKind}
use Rattle.nl_exec_acts.specs.declared.fail.ErrorKind.TheVariants.{WrongType, NoVariable, LinkFault}
use Rattle.nl_exec_acts.specs.Stage.{bare, changed}
use Rattle.nl_exec_acts.specs.Acts.{point_inside}
use Rattle.nl_exec_meaning.specs.declared.words.Apart.{Apart}
use Rattle.nl_exec_meaning.specs.declared.words.Apart.TheVariants as apart
use Rattle.nl_exec_meaning.specs.Cases.{Case}
use Rattle.nl_exec_meaning.specs.Cases as case
use Rattle.nl_exec_meaning.specs.State.{Held, State, Outcome, gives, goes_on, fails, found, come_to, rest_of, with_stage, with_locals, with_number}
use Rattle.nl_exec_meaning.specs.Running.{allowed}

-- ---- locals

-- the index of the last item of a list that passes a test
abbrev pub later : Option ℕ → Bool → Option ℕ
later (Some index) passes = Some (suc index)
later None true = Some 0
later None false = None

abbrev pub last_index : {X : Type 0} → (X → Bool) → List X → Option ℕ
last_index test [] = None
last_index test (x ∷ xs) = later (last_index test xs) (test x)

-- the index of the newest local of the name
abbrev pub newest : Name → List Held → Option ℕ
newest name held = last_index (λ l. bytes_eq l.name name) held

abbrev pub local_value : Name → List Held → Option Plain
local_value name held = option_map (λ l. l.value) (option_and_then (slice_get held) (newest name held))

abbrev pub read_local : Name → Span → State → Outcome
read_local name place s = found (local_value name s.locals) WrongType place s (λ value. gives value s)

-- a new local, behind the others
abbrev pub make_local : Name → Plain → State → State
make_local name value s = with_locals (s.locals ++ record { name = name; value = value } ∷ []) s

-- the newest local of the name holds the value
abbrev pub set_local : Name → Span → Plain → State → Outcome
set_local name place value s =
    found (newest name s.locals) WrongType place s (λ index.
    goes_on (with_locals (slice_set s.locals index (record { name = name; value = value })) s))

-- ---- global variables

abbrev pub read_global : Slot → Span → State → Outcome
read_global slot place s = found (slice_get s.globals slot) WrongType place s (λ value. gives value s)

abbrev pub set_global : Slot → Span → Plain → State → Outcome
set_global slot place value s =
    found (slice_get s.globals slot) WrongType place s (λ old. goes_on (record s { globals = slice_set s.globals slot value }))

-- ---- variables of agents that are kept under slots

-- the patch under a turtle
abbrev pub patch_under : Rest → ℕ → ℕ
patch_under r turtle = patch_at r.shape (place_of r (owner.Turtle turtle))

-- whose variable it is: a turtle has the variables of patches from the patch on which it stands
abbrev pub owner_by : Rest → Slot → Owner → Owner
owner_by r slot (owner.Turtle turtle) = if has_slot r.layout.every_patch slot then owner.Patch (patch_under r turtle) else owner.Turtle turtle
owner_by r slot agent = agent

abbrev pub owner_in : State → Slot → Owner
owner_in s slot = owner_by (rest_of s) slot s.site.agent

abbrev pub value_in_state : State → Slot → Option Plain
value_in_state s slot = value_of (owner_in s slot) slot (bare (rest_of s))

abbrev pub read_owned : Kinds → Slot → Span → State → Outcome
read_owned runs slot place s =
    allowed runs place s (found (value_in_state s slot) NoVariable place s (λ value. gives value s))

-- what a variable keeps of a value, where it may hold it: colors less whole 140s, headings less whole turns
abbrev pub number_kept : (ℤ → ℤ) → Plain → Option Plain
number_kept change (PlainNumber count) = Some (PlainNumber (change count))
number_kept change value = None

abbrev pub truth_kept : Plain → Option Plain
truth_kept (PlainTruth truth) = Some (PlainTruth truth)
truth_kept value = None

abbrev pub text_kept : Plain → Option Plain
text_kept (PlainWords bytes) = Some (PlainWords bytes)
text_kept value = None

abbrev pub kept_as : Rule → Plain → Option Plain
kept_as rule.Color value = number_kept (λ count. int_rem_euclid count (pos (140 * one))) value
kept_as rule.Heading value = number_kept (λ count. int_rem_euclid count (degrees (pos 360))) value
kept_as rule.Number value = number_kept (λ count. count) value
kept_as rule.Truth value = truth_kept value
kept_as rule.Words value = text_kept value
kept_as rule.Anything value = Some value

-- The agent's kind, and whether it owns the variable, are told at the variable; that the variable can't hold the value is told at `set`.
abbrev pub set_owned : Kinds → Slot → Span → Span → Plain → State → Outcome
set_owned runs slot variable place value s =
    allowed runs variable s (
    found (value_in_state s slot) NoVariable variable s (λ old.
    found (kept_as (rule_of slot) value) WrongType place s (λ new.
    goes_on (with_stage (changed (revalued (owner_in s slot) slot new) s.stage) s))))

-- ---- variables that are kept apart

abbrev pub breed_set : BreedNumber → Plain
breed_set zero = PlainSet set.Turtles
breed_set (suc n) = PlainSet (set.Breed (suc n))

abbrev pub link_breed_set : BreedNumber → Plain
link_breed_set zero = PlainSet set.Links
link_breed_set (suc n) = PlainSet (set.LinkBreed (suc n))

-- a patch's own
abbrev pub of_patch : Apart → Rest → ℕ → Option Plain
of_patch apart.Pxcor r patch = Some (PlainNumber (pxcor_of r.shape patch *ℤ pos one))
of_patch apart.Pycor r patch = Some (PlainNumber (pycor_of r.shape patch *ℤ pos one))
of_patch which r patch = None

-- a turtle's own, and those of the patch on which it stands
abbrev pub of_turtle : Apart → Rest → the_turtle.Turtle → Option Plain
of_turtle apart.Who r t = Some (PlainNumber (pos (who_of r t.serial) *ℤ pos one))
of_turtle apart.Xcor r t = Some (PlainNumber t.at.x)
of_turtle apart.Ycor r t = Some (PlainNumber t.at.y)
of_turtle apart.Breed r t = Some (breed_set t.breed)
of_turtle which r t = of_patch which r (patch_at r.shape t.at)

abbrev pub of_link : Apart → the_link.Link → Option Plain
of_link apart.End1 l = Some (PlainTurtle l.end1)
of_link apart.End2 l = Some (PlainTurtle l.end2)
of_link apart.Breed l = Some (link_breed_set l.breed)
of_link which l = None

abbrev pub apart_value : Rest → Apart → Owner → Option Plain
apart_value r which owner.Observer = None
apart_value r which (owner.Turtle turtle) = option_and_then (of_turtle which r) (turtle_of turtle r)
apart_value r which (owner.Patch patch) = of_patch which r patch
apart_value r which (owner.Link link) = option_and_then (of_link which) (link_of link r)

abbrev pub read_apart : Kinds → Apart → Span → State → Outcome
read_apart runs which place s =
    allowed runs place s (found (apart_value (rest_of s) which s.site.agent) NoVariable place s (λ value. gives value s))

-- a turtle's breed is that of a set of all turtles, or of all of a breed
abbrev pub breed_in : Rest → Plain → Option BreedNumber
breed_in r (PlainSet set.Turtles) = Some 0
breed_in r (PlainSet (set.Breed breed)) = if is_turtle_breed r.layout breed then Some breed else None
breed_in r value = None

abbrev pub moved_to_point : ℕ → Span → State → Result Point ErrorKind → Outcome
moved_to_point turtle place s point =
    come_to point place s (λ at. goes_on (with_stage (changed (moved turtle at) s.stage) s))

abbrev pub own_place : State → ℕ → Point
own_place s turtle = place_of (rest_of s) (owner.Turtle turtle)

-- where no text sets a variable, its value is of no kind that it takes
abbrev pub set_of_turtle : Apart → ℕ → Span → Plain → State → Outcome
set_of_turtle apart.Xcor turtle place value s =
    with_number value place s (λ x. moved_to_point turtle place s (point_inside (rest_of s) x (own_place s turtle).y))
set_of_turtle apart.Ycor turtle place value s =
    with_number value place s (λ y. moved_to_point turtle place s (point_inside (rest_of s) (own_place s turtle).x y))
set_of_turtle apart.Breed turtle place value s =
    found (breed_in (rest_of s) value) WrongType place s (λ breed. goes_on (with_stage (changed (rebred turtle breed) s.stage) s))
set_of_turtle which turtle place value s = fails WrongType place s

-- a link keeps the breed that it was made with
abbrev pub set_of_link : Apart → Span → Plain → State → Outcome
set_of_link apart.Breed place value s = fails LinkFault place s
set_of_link which place value s = fails WrongType place s

abbrev pub set_of_agent : Apart → Owner → Span → Plain → State → Outcome
set_of_agent which (owner.Turtle turtle) place value s = set_of_turtle which turtle place value s
set_of_agent which (owner.Link link) place value s = set_of_link which place value s
set_of_agent which agent place value s = fails WrongType place s

abbrev pub set_apart : Kinds → Apart → Span → Span → Plain → State → Outcome
set_apart runs which variable place value s = allowed runs variable s (set_of_agent which s.site.agent place value s)

-- ---- `set`

-- the variable becomes the value: the first place is that of the variable's name, the second that of `set`
abbrev pub assign : Case → Span → Span → Plain → State → Outcome
assign (case.Local name) variable place value s = set_local name place value s
assign (case.Global slot) variable place value s = set_global slot place value s
assign (case.Owned runs slot) variable place value s = set_owned runs slot variable place value s
assign (case.Aside runs which) variable place value s = set_apart runs which variable place value s
assign other variable place value s = fails WrongType place s
