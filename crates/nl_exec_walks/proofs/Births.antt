-- Births and the making of links in a text: they touch no global variable, and so they are those of a world that has none.
use Rattle.std.specs.Bool.{⊤}
use Rattle.std.specs.List.{range_with_len}
use Rattle.std.proofs.Common.{◌≡◌, ℕ, zero, suc, ℤ, Bool, true, false, if◌then◌else◌, IsTrue, [], ◌∷◌, take, length, nat_le, Option, Some, None, Result, Ok, Err, refl, ap, ◌∙◌, sym, subst}
use Rattle.nl_fixed.specs.Nouns.{Names}
use Rattle.nl_fixed.specs.declared.span.Span.{Span}
use Rattle.nl_value.specs.Nouns.{Serials}
use Rattle.nl_value.specs.Plain.{Plain}
use Rattle.nl_grid.specs.Geometry.{center_of}
use Rattle.nl_grid.specs.declared.point.Point.{Point}
use Rattle.nl_agents_layout.specs.Nouns.{BreedNumber}
use Rattle.nl_agents_layout.specs.Layouts.{is_turtle_breed, is_link_breed}
use Rattle.nl_agents_layout.specs.declared.layout.Layout.{Layout}
use Rattle.nl_agents.specs.World.{World}
use Rattle.nl_agents.specs.Changes.{born}
use Rattle.nl_agents.specs.declared.store.Store.{Ghosts}
use Rattle.nl_agentset_query.specs.Agents.{breed_or_none}
use Rattle.nl_agentset.specs.Queries.{is_breed_or_none}
use Rattle.nl_birth.specs.Births.{Scene, drawn_birth, drawn_births, ordered_births, hatchings, count_of, birthplace, origin, turtle_room, turtles_born, creations, created, sproutings, sprouted, hatched}
use Rattle.nl_birth.specs.Looks.{born_with, looks_in_order}
use Rattle.nl_birth.specs.Keeping.{Keeps}
use Rattle.nl_birth.specs.Links.{wanted, tied_to, tied_to_all, is_refused, link_room, links_made, linkings, linked}
use Rattle.nl_birth.specs.Outcomes.{BirthOutcome, Made, Filled, Refused, outcome_of, IsOutcome}
use Rattle.nl_birth.specs.declared.failing.BirthFail.{BirthFail}
use Rattle.nl_birth.specs.declared.failing.BirthFail.TheVariants as birth
use Rattle.nl_birth.specs.declared.way.Way.{Way}
use Rattle.nl_exec_acts.specs.declared.fail.ActFail.{ActFail}
use Rattle.nl_exec_acts.specs.declared.fail.ErrorKind.TheVariants as error
use Rattle.nl_exec_acts.specs.Stage.{Stage, bare}
use Rattle.nl_exec_meaning.specs.State as meant
use Rattle.nl_exec_meaning.specs.declared.words.Making.{Making}
use Rattle.nl_exec_meaning.specs.declared.words.Making.TheVariants as making
use Rattle.nl_exec_meaning.specs.State.{State, fails, with_number, with_stage}
use Rattle.nl_exec_meaning.specs.Makings.{born_of, made_by, made_of}
use Rattle.nl_exec_meaning.specs.Ground.{ground_of}
use Rattle.nl_exec_meaning.specs.Seen.{state_of}
use Rattle.nl_exec_meaning.specs.declared.hands.Hands.{Hands}
use Rattle.nl_exec_walks.specs.Births.{as_told, Makes}

-- ---- without global variables

abbrev pub bare_world : World → World
bare_world w = bare w.rest

abbrev pub bare_scene : Scene → Scene
bare_scene s = record s { world = bare s.world.rest }

abbrev pub mapped : {X : Type 0} → (X → X) → BirthOutcome X → BirthOutcome X
mapped f (Made made now) = Made made (f now)
mapped f (Filled now) = Filled (f now)
mapped f (Refused now) = Refused (f now)

if-mapped : {X : Type 0} (f : X → X) (truth : Bool) (a b c d : BirthOutcome X) → mapped f a ≡ c → mapped f b ≡ d →
    mapped f (if truth then a else b) ≡ (if truth then c else d)
if-mapped f true a b c d first second = first
if-mapped f false a b c d first second = second

outcome-mapped : {X : Type 0} (f : X → X) (after other : ℕ → X) (room first count : ℕ) → ((k : ℕ) → f (after k) ≡ other k) →
    mapped f (outcome_of after room first count) ≡ outcome_of other room first count
outcome-mapped f after other room first count same =
    if-mapped f (nat_le count room) (Made (range_with_len first count) (after count)) (Filled (after room))
    (Made (range_with_len first count) (other count)) (Filled (other room))
    (ap (Made (range_with_len first count)) (same count)) (ap Filled (same room))

drawn-bare : (breed : BreedNumber) (at : Point) (s : Scene) (k : ℕ) → bare_scene (drawn_births breed at s k) ≡ drawn_births breed at (bare_scene s) k
unfolding drawn_births
drawn-bare breed at s zero = refl
drawn-bare breed at s (suc k) = ap (drawn_birth breed at) (drawn-bare breed at s k)

ordered-bare : (breed : BreedNumber) (count : ℕ) (w : World) (k : ℕ) → bare_world (ordered_births breed count w k) ≡ ordered_births breed count (bare_world w) k
unfolding ordered_births
ordered-bare breed count w zero = refl
ordered-bare breed count w (suc k) = ap (born_with breed origin (looks_in_order count k)) (ordered-bare breed count w k)

hatched-bare : (breed : BreedNumber) (parent : ℕ) (at : Point) (w : World) (k : ℕ) → bare_world (hatchings breed parent at w k) ≡ hatchings breed parent at (bare_world w) k
unfolding hatchings
hatched-bare breed parent at w zero = refl
hatched-bare breed parent at w (suc k) = ap (born breed at (Some parent)) (hatched-bare breed parent at w k)

tied-bare : (way : Way) (breed : BreedNumber) (caller : ℕ) (targets : Serials) (w : World) →
    bare_world (tied_to_all way breed caller targets w) ≡ tied_to_all way breed caller targets (bare_world w)
unfolding tied_to_all
tied-bare way breed caller [] w = refl
tied-bare way breed caller (t ∷ ts) w = tied-bare way breed caller ts (tied_to way breed caller t w)

creations-bare : (ordered : Bool) (breed : BreedNumber) (count : ℕ) (s : Scene) (k : ℕ) →
    bare_scene (creations ordered breed count s k) ≡ creations ordered breed count (bare_scene s) k
creations-bare true breed count s k = ap (λ w. record s { world = w }) (ordered-bare breed count s.world k)
creations-bare false breed count s k = drawn-bare breed origin s k

pub created_bare : (ordered : Bool) (breed : BreedNumber) (number : ℤ) (s : Scene) →
    mapped bare_scene (created ordered breed number s) ≡ created ordered breed number (bare_scene s)
created_bare ordered breed number s =
    outcome-mapped bare_scene (creations ordered breed (count_of number) s) (creations ordered breed (count_of number) (bare_scene s)) _ _ _
    (creations-bare ordered breed (count_of number) s)

pub sprouted_bare : (patch : ℕ) (breed : BreedNumber) (number : ℤ) (s : Scene) →
    mapped bare_scene (sprouted patch breed number s) ≡ sprouted patch breed number (bare_scene s)
sprouted_bare patch breed number s =
    outcome-mapped bare_scene (sproutings patch breed s) (sproutings patch breed (bare_scene s)) _ _ _
    (drawn-bare breed (center_of s.world.rest.shape patch) s)

pub hatched_bare : (parent : ℕ) (breed : BreedNumber) (number : ℤ) (w : World) →
    mapped bare_world (hatched parent breed number w) ≡ hatched parent breed number (bare_world w)
hatched_bare parent breed number w =
    outcome-mapped bare_world (hatchings breed parent (birthplace parent w) w) (hatchings breed parent (birthplace parent (bare_world w)) (bare_world w)) _ _ _
    (hatched-bare breed parent (birthplace parent w) w)

pub linked_bare : (way : Way) (breed : BreedNumber) (caller : ℕ) (targets : Serials) (w : World) →
    mapped bare_world (linked way breed caller targets w) ≡ linked way breed caller targets (bare_world w)
linked_bare way breed caller targets w =
    let all = wanted way breed caller targets w in
    let made = links_made (linkings way breed caller targets w) w (length all) in
    let other = links_made (linkings way breed caller targets (bare_world w)) (bare_world w) (length all) in
    if-mapped bare_world (is_refused way breed caller targets w) (Refused w) made (Refused (bare_world w)) other refl
    (outcome-mapped bare_world (linkings way breed caller targets w) (linkings way breed caller targets (bare_world w)) _ _ _
    (λ k. tied-bare way breed caller (take k all) w))

-- ---- what is refused

if-not : {X : Type 0} (truth : Bool) (a b : BirthOutcome X) (now : X) → (a ≡ Refused now → ⊥) → (b ≡ Refused now → ⊥) → (if truth then a else b) ≡ Refused now → ⊥
if-not true a b now first second is = first is
if-not false a b now first second is = second is

never-refused : {X : Type 0} (after : ℕ → X) (room first count : ℕ) (now : X) → outcome_of after room first count ≡ Refused now → ⊥
never-refused after room first count now is =
    if-not (nat_le count room) (Made (range_with_len first count) (after count)) (Filled (after room)) now (λ h. cc) (λ h. cc) is

pub birth_refused : {X : Type 0} (after : ℕ → X) (w : World) (count : ℕ) (now : X) → turtles_born after w count ≡ Refused now → ⊥
birth_refused after w count now is = never-refused after (turtle_room w) w.rest.turtles_given count now is

-- links are refused before any is made
pub link_refused : (way : Way) (breed : BreedNumber) (caller : ℕ) (targets : Serials) (w now : World) → linked way breed caller targets w ≡ Refused now → w ≡ now
link_refused way breed caller targets w now is =
    by (is_refused way breed caller targets w) (links_made (linkings way breed caller targets w) w (length (wanted way breed caller targets w)))
    (never-refused (linkings way breed caller targets w) (link_room w) w.rest.links_given (length (wanted way breed caller targets w)) now) is
  where
    by : (truth : Bool) (made : BirthOutcome World) → (made ≡ Refused now → ⊥) → (if truth then Refused w else made) ≡ Refused now → w ≡ now
    by true made other h = cc
    by false made other h = absurd (other h)

-- ---- what stays

pub keeps_ground : (w now : World) → Keeps w now → ground_of now.rest ≡ ground_of w.rest
keeps_ground w now keeps = ap (λ (x : World). ground_of x.rest) keeps.rest

pub keeps_globals : (w now : World) → Keeps w now → now.globals ≡ w.globals
keeps_globals w now keeps = ap (λ (x : World). x.globals) keeps.rest

-- ---- what a text goes on with

-- all were made, or there is the error, in this state
abbrev pub Comes : Result Serials BirthFail → meant.Outcome → Span → State → (Serials → State → meant.Outcome) → Type 0
Comes (Ok made) o place s next = o ≡ next made s
Comes (Err birth.TooMany) o place s next = o ≡ fails error.TooMany place s
Comes (Err birth.LinkFault) o place s next = o ≡ fails error.LinkFault place s
Comes (Err birth.NoMemory) o place s next = ⊤

pub comes : {X : Type 0} (f : X → X) (after : X → Stage → Stage) (outcome other : BirthOutcome X) → mapped f outcome ≡ other →
    (result : Result Serials BirthFail) (steps : ℕ → X) (most : ℕ) (now : X) → IsOutcome outcome steps most result now →
    (s s1 : State) → with_stage (after (f now) s.stage) s ≡ s1 → (outcome ≡ Refused now → s ≡ s1) →
    (place : Span) (next : Serials → State → meant.Outcome) → Comes result (made_by other after place s next) place s1 next
comes f after outcome other same (Ok made) steps most now is s s1 leaves refused place next =
    ap (λ o. made_by o after place s next) (sym same ∙ ap (mapped f) is) ∙ ap (next made) leaves
comes f after outcome other same (Err birth.TooMany) steps most now is s s1 leaves refused place next =
    ap (λ o. made_by o after place s next) (sym same ∙ ap (mapped f) is) ∙ ap (fails error.TooMany place) leaves
comes f after outcome other same (Err birth.LinkFault) steps most now is s s1 leaves refused place next =
    ap (λ o. made_by o after place s next) (sym same ∙ ap (mapped f) is) ∙ ap (fails error.LinkFault place) (refused is)
comes f after outcome other same (Err birth.NoMemory) steps most now is s s1 leaves refused place next = tt

-- the same of an outcome that is this one
pub comes_too : (result : Result Serials BirthFail) (o other : meant.Outcome) (place : Span) (s : State) (next : Serials → State → meant.Outcome) → other ≡ o →
    Comes result o place s next → Comes result other place s next
comes_too (Ok made) o other place s next same comes = same ∙ comes
comes_too (Err birth.TooMany) o other place s next same comes = same ∙ comes
comes_too (Err birth.LinkFault) o other place s next same comes = same ∙ comes
comes_too (Err birth.NoMemory) o other place s next same comes = tt

-- so the call makes what the text means
pub makes : {S : Type 0} {G : Ghosts S} (after before : Hands S G) (meaning : Span → State → (Serials → State → meant.Outcome) → meant.Outcome)
    (births : Result Serials BirthFail) (result : Result Serials ActFail) → result ≡ as_told births →
    ((names : Names) (units : ℕ) (place : Span) (next : Serials → State → meant.Outcome) →
    Comes births (meaning place (state_of names before units) next) place (state_of names after units) next) → Makes result after before meaning
makes after before meaning births result is each = subst (λ (r : Result Serials ActFail). Makes r after before meaning) (sym is) (by births each)
  where
    by : (told : Result Serials BirthFail) → ((names : Names) (units : ℕ) (place : Span) (next : Serials → State → meant.Outcome) →
        Comes told (meaning place (state_of names before units) next) place (state_of names after units) next) → Makes (as_told told) after before meaning
    by (Ok made) h = h
    by (Err birth.TooMany) h = h
    by (Err birth.LinkFault) h = h
    by (Err birth.NoMemory) h = tt

-- ---- breeds

pub turtle_breed : (layout : Layout) (breed : Option BreedNumber) → IsTrue (is_breed_or_none (is_turtle_breed layout) breed) → IsTrue (is_turtle_breed layout (breed_or_none breed))
turtle_breed layout None known = refl
turtle_breed layout (Some breed) known = known

pub link_breed : (layout : Layout) (breed : Option BreedNumber) → IsTrue (is_breed_or_none (is_link_breed layout) breed) → IsTrue (is_link_breed layout (breed_or_none breed))
link_breed layout None known = refl
link_breed layout (Some breed) known = known

-- ---- words that take a number

pub counted : (word : Making) → ((way : Way) (one : Bool) → word ≡ making.Link way one → ⊥) → (breed : Option BreedNumber) (value : Plain) (place : Span) (s : State) (next : Serials → State → meant.Outcome) →
    made_of word breed value place s next ≡ with_number value place s (λ number. born_of word breed number place s next)
counted (making.Link way one) other breed value place s next = absurd (other way one refl)
counted (making.Create ordered) other breed value place s next = refl
counted making.Hatch other breed value place s next = refl
counted making.Sprout other breed value place s next = refl
