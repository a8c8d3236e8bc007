-- The shape and the layout of the world are its ground, which no act touches, and no other change that a text makes.
use Rattle.std.proofs.Common.{◌≡◌, subst, ℕ, ℤ, pos, Bool, true, false, if◌then◌else◌, List, Option, Some, None, is_some, nat_lt, length, Result, Ok, Err, refl}
use Rattle.std.specs.Int.{int_rem_euclid}
use Rattle.nl_fixed.specs.Sines.{degrees}
use Rattle.nl_fixed.specs.declared.number.NumFault.{NumFault}
use Rattle.nl_value.specs.Plain.{Plain, PlainNumber}
use Rattle.nl_grid.specs.Geometry.{heading_between, center_of}
use Rattle.nl_grid.specs.declared.point.Point.{Point}
use Rattle.nl_agents_layout.specs.BuiltIn.{heading_slot}
use Rattle.nl_agents_layout.specs.Nouns.{Slot, BreedNumber}
use Rattle.nl_agents.specs.World.{Rest, World}
use Rattle.nl_agents.specs.Changes.{value_of, moved, revalued, rebred, killed, cut, turtles_cleared, links_cleared, patches_cleared, globals_cleared}
use Rattle.nl_agents.specs.declared.agents.Owner.{Owner}
use Rattle.nl_agents.specs.declared.agents.Owner.TheVariants as owner
use Rattle.nl_motion.specs.Motion.{moved_to}
use Rattle.nl_motion.specs.Climbing.{headed, centered, faced, climbed_to, climbed}
use Rattle.nl_motion.specs.Diffusion.{diffused}
use Rattle.nl_exec_acts.specs.Stage.{Stage, ActOutcome, changed, bare, and_then, outcome_map}
use Rattle.nl_exec_acts.specs.Acts as acts
use Rattle.nl_exec_acts.specs.Acts.{answers, does, on_stage, with_stream, at_ticks, cleared, living_turtle, stepped_by, jumped, inside_or_out, point_inside, gone_to, turned_to, turned, two_numbers, moves, moved_by, is_drawn, slot_set, look_of, looks, value_told, whom_told, is_link_told, move_told, look_told, clock_told, clear_told, seed_told, seeded, spot_told, bound_told, run_told}
use Rattle.nl_exec_acts.specs.declared.fail.ErrorKind.{ErrorKind}
use Rattle.nl_exec_acts.specs.declared.words.Act.{Act}
use Rattle.nl_exec_acts.specs.declared.words.Act.TheVariants as act
use Rattle.nl_exec_acts.specs.declared.words.Look.{Look}
use Rattle.nl_exec_acts.specs.declared.words.Move.{Move}
use Rattle.nl_exec_acts.specs.declared.words.Move.TheVariants as move
use Rattle.nl_exec_acts.specs.declared.words.Clear.{Clear}
use Rattle.nl_exec_acts.specs.declared.words.Clear.TheVariants as clear
use Rattle.nl_exec_meaning.specs.Acting.{performed}

-- both have the same ground
abbrev pub SameGround : Rest → Rest → Type 0
SameGround now before = (now.shape ≡ before.shape) × (now.layout ≡ before.layout)

-- the change leaves the ground
abbrev pub KeepsGround : (World → World) → Type 0
KeepsGround change = (w : World) → SameGround (change w).rest w.rest

-- so the stage after it has the same ground
pub changed_ground : (change : World → World) → KeepsGround change → (st : Stage) → SameGround (changed change st).rest st.rest
changed_ground change keeps st = keeps (bare st.rest)

-- ---- changes

pub moved_ground : (turtle : ℕ) (to : Point) → KeepsGround (moved turtle to)
moved_ground turtle to w = (refl, refl)

pub rebred_ground : (turtle : ℕ) (breed : BreedNumber) → KeepsGround (rebred turtle breed)
rebred_ground turtle breed w = (refl, refl)

pub killed_ground : (turtle : ℕ) → KeepsGround (killed turtle)
killed_ground turtle w = (refl, refl)

pub cut_ground : (link : ℕ) → KeepsGround (cut link)
cut_ground link w = (refl, refl)

pub turtles_cleared_ground : KeepsGround turtles_cleared
turtles_cleared_ground w = (refl, refl)

pub links_cleared_ground : KeepsGround links_cleared
links_cleared_ground w = (refl, refl)

pub patches_cleared_ground : KeepsGround patches_cleared
patches_cleared_ground w = (refl, refl)

pub globals_cleared_ground : KeepsGround globals_cleared
globals_cleared_ground w = (refl, refl)

if-ground : (truth : Bool) (a b w : World) → SameGround a.rest w.rest → SameGround b.rest w.rest → SameGround (if truth then a else b).rest w.rest
if-ground true a b w first second = first
if-ground false a b w first second = second

pub revalued_ground : (agent : Owner) (slot : Slot) (value : Plain) → KeepsGround (revalued agent slot value)
revalued_ground owner.Observer slot value w = if-ground (nat_lt slot (length w.globals)) _ _ w (refl, refl) (refl, refl)
revalued_ground (owner.Turtle turtle) slot value w = (refl, refl)
revalued_ground (owner.Patch patch) slot value w = (refl, refl)
revalued_ground (owner.Link link) slot value w = (refl, refl)

pub diffused_ground : (slot : Slot) (share : ℤ) (four : Bool) → KeepsGround (diffused slot share four)
diffused_ground slot share four w = (refl, refl)

pub headed_ground : (turtle : ℕ) (heading : Option ℤ) → KeepsGround (headed turtle heading)
headed_ground turtle None w = (refl, refl)
headed_ground turtle (Some heading) w =
    if-ground (is_some (value_of (owner.Turtle turtle) heading_slot w)) _ w w (revalued_ground (owner.Turtle turtle) heading_slot (PlainNumber heading) w) (refl, refl)

faced-ground : (turtle from to : ℕ) → KeepsGround (faced turtle from to)
faced-ground turtle from to w = headed_ground turtle (heading_between w.rest.shape (center_of w.rest.shape from) (center_of w.rest.shape to)) w

climbed_to-ground : (turtle from : ℕ) (to : Option ℕ) → KeepsGround (climbed_to turtle from to)
climbed_to-ground turtle from None w = (refl, refl)
climbed_to-ground turtle from (Some to) w = faced-ground turtle from to w

pub climbed_ground : (turtle : ℕ) (slot : Slot) (up four : Bool) (stream : ℕ) → KeepsGround (λ w. climbed turtle slot up four w stream)
climbed_ground turtle slot up four stream w = climbed_to-ground turtle _ _ (centered turtle _ w)

-- ---- acts on the rest

-- what comes of an act has the ground of the rest, where it isn't an error
data Kept (r : Rest) : ActOutcome Rest → Type 0 where
  kept : {now : Rest} → SameGround now r → Kept r (Ok now)
  refused : {kind : ErrorKind} → Kept r (Err kind)

and_then-kept : {X : Type 0} {r : Rest} (o : ActOutcome X) (next : X → ActOutcome Rest) → ((x : X) → Kept r (next x)) → Kept r (and_then o next)
and_then-kept (Ok x) next keeps = keeps x
and_then-kept (Err kind) next keeps = refused

if-kept : {r : Rest} (truth : Bool) (a b : ActOutcome Rest) → Kept r a → Kept r b → Kept r (if truth then a else b)
if-kept true a b first second = first
if-kept false a b first second = second

moved_to-ground : (turtle : ℕ) (to : Option Point) → KeepsGround (moved_to turtle to)
moved_to-ground turtle None w = (refl, refl)
moved_to-ground turtle (Some to) w = (refl, refl)

stepped-kept : (turtle : ℕ) (r : Rest) (to : Result (Option Point) NumFault) → Kept r (stepped_by turtle r to)
stepped-kept turtle r (Ok to) = kept (moved_to-ground turtle to (bare r))
stepped-kept turtle r (Err fault) = refused

gone-kept : (turtle : ℕ) (r : Rest) (at : Point) → Kept r (gone_to turtle r at)
gone-kept turtle r at = kept (refl, refl)

faced-kept : (turtle : ℕ) (r : Rest) (at : Point) → Kept r (acts.faced turtle r at)
faced-kept turtle r at = kept (headed_ground turtle _ (bare r))

turned_to-kept : (turtle : ℕ) (r : Rest) (angle : ℤ) → Kept r (turned_to turtle r angle)
turned_to-kept turtle r angle = kept (headed_ground turtle (Some (int_rem_euclid angle (degrees (pos 360)))) (bare r))

turned-kept : (turtle : ℕ) (r : Rest) (angle : Result ℤ NumFault) → Kept r (turned turtle r angle)
turned-kept turtle r angle = and_then-kept _ _ (turned_to-kept turtle r)

ruleset moving = (and_then-kept, stepped-kept, gone-kept, faced-kept, turned-kept)

moves-kept : (which : Move) (turtle : ℕ) (inputs : List Plain) (r : Rest) → Kept r (moves which turtle inputs r)
moves-kept move.Home turtle inputs r = search moving
moves-kept which turtle inputs r = search moving

moved_by-kept : (which : Move) (agent : Owner) (inputs : List Plain) (r : Rest) → Kept r (moved_by which agent inputs r)
moved_by-kept which agent inputs r = and_then-kept (living_turtle r agent) _ (λ turtle. moves-kept which turtle inputs r)

slot_set-ground : (slot : Option Slot) (new : Plain) (agent : Owner) → KeepsGround (slot_set slot new agent)
slot_set-ground None new agent w = (refl, refl)
slot_set-ground (Some slot) new agent w = if-ground (is_some (value_of agent slot w)) _ w w (revalued_ground agent slot new w) (refl, refl)

looks-kept : (which : Look) (agent : Owner) (r : Rest) → Kept r (looks which agent r)
looks-kept which agent r = if-kept (is_drawn r agent) _ _ (kept (slot_set-ground _ _ agent (bare r))) refused

-- ---- acts on the stage

-- what comes of an act leaves a stage with the ground of the rest, where it isn't an error
data Told (r : Rest) : ActOutcome (Plain × Stage) → Type 0 where
  told : {answer : Plain × Stage} → SameGround answer.1.rest r → Told r (Ok answer)
  wrong : {kind : ErrorKind} → Told r (Err kind)

and_then-told : {X : Type 0} {r : Rest} (o : ActOutcome X) (next : X → ActOutcome (Plain × Stage)) → ((x : X) → Told r (next x)) → Told r (and_then o next)
and_then-told (Ok x) next keeps = keeps x
and_then-told (Err kind) next keeps = wrong

stream-told : (st : Stage) (o : ActOutcome (Plain × ℕ)) → Told st.rest (outcome_map (with_stream st) o)
stream-told st (Ok answer) = told (refl, refl)
stream-told st (Err kind) = wrong

ticks-told : (st : Stage) (o : ActOutcome (Plain × Option ℤ)) → Told st.rest (outcome_map (at_ticks st) o)
ticks-told st (Ok answer) = told (refl, refl)
ticks-told st (Err kind) = wrong

on_stage-told : (st : Stage) (o : ActOutcome Rest) → Kept st.rest o → Told st.rest (on_stage st o)
on_stage-told st (Ok now) (kept same) = told same
on_stage-told st (Err kind) refused = wrong

cleared-ground : (which : Clear) → KeepsGround (cleared which)
cleared-ground clear.Turtles w = (refl, refl)
cleared-ground clear.Links w = (refl, refl)
cleared-ground clear.Patches w = (refl, refl)

act-told : (which : Act) (breed : Option BreedNumber) (agent asker : Owner) (inputs : List Plain) (st : Stage) →
    Told st.rest (performed which breed agent asker inputs st)
act-told (act.Value which) breed agent asker inputs st = stream-told st _
act-told (act.Query which) breed agent asker inputs st = stream-told st _
act-told (act.Whom which) breed agent asker inputs st = and_then-told _ _ (λ value. told (refl, refl))
act-told (act.IsLink directed) breed agent asker inputs st = and_then-told _ _ (λ value. told (refl, refl))
act-told (act.Move which) breed agent asker inputs st = on_stage-told st _ (moved_by-kept which agent inputs st.rest)
act-told (act.Look which) breed agent asker inputs st = on_stage-told st _ (looks-kept which agent st.rest)
act-told (act.Clock which) breed agent asker inputs st = ticks-told st _
act-told (act.Clear which) breed agent asker inputs st = told (cleared-ground which (bare st.rest))
act-told act.Seed breed agent asker inputs st = and_then-told _ _ (λ n. told (refl, refl))
act-told (act.Spot which) breed agent asker inputs st = told (refl, refl)
act-told (act.Bound which) breed agent asker inputs st = told (refl, refl)
act-told (act.OfRun which) breed agent asker inputs st = and_then-told _ _ (λ value. told (refl, refl))
act-told act.Idle breed agent asker inputs st = told (refl, refl)

answer-ground : (r : Rest) (o : ActOutcome (Plain × Stage)) (answer : Plain × Stage) → Told r o → o ≡ Ok answer → SameGround answer.1.rest r
answer-ground r o answer (told {answer = given} same) is = subst {A = Plain × Stage} (λ a. SameGround a.1.rest r) {x = given} {y = answer} (cc) same
answer-ground r o answer wrong is = cc

pub performed_ground : (act : Act) (breed : Option BreedNumber) (agent asker : Owner) (inputs : List Plain) (st : Stage) (answer : Plain × Stage) →
    performed act breed agent asker inputs st ≡ Ok answer → (answer.1.rest.shape ≡ st.rest.shape) × (answer.1.rest.layout ≡ st.rest.layout)
performed_ground act breed agent asker inputs st answer is =
    answer-ground st.rest (performed act breed agent asker inputs st) answer (act-told act breed agent asker inputs st) is
