-- Words that make agents: births and links, and the block that the new ones may run.
-- What the words do is the NetLogo Dictionary's; that the new agents run the block shuffled, as an ask, is this project's own choice.
use Rattle.std.specs.Prelude.{ℕ, ℤ, Bool, true, false, [], ◌∷◌, Option, Some, None, Result, Ok, Err, slice_get}
use Rattle.nl_fixed.specs.declared.span.Span.{Span}
use Rattle.nl_words.specs.declared.entry.Kinds.{Kinds}
use Rattle.nl_value.specs.Nouns.{Serials}
use Rattle.nl_value.specs.Plain.{Plain, PlainSet}
use Rattle.nl_value.specs.Living.{same_kind}
use Rattle.nl_value.specs.Sets.{set_kind}
use Rattle.nl_value.specs.declared.sets.AgentKind.{AgentKind}
use Rattle.nl_value.specs.declared.sets.AgentKind.TheVariants as kind
use Rattle.nl_tree.specs.Tree.{Node, span, parts}
use Rattle.nl_agents_layout.specs.Nouns.{BreedNumber}
use Rattle.nl_agents.specs.World.{Rest, World}
use Rattle.nl_agents.specs.Changes.{turtle_of}
use Rattle.nl_agents.specs.Members.{members_of}
use Rattle.nl_agents.specs.declared.agents.Turtle as the_turtle
use Rattle.nl_agents.specs.declared.agents.Owner.{Owner}
use Rattle.nl_agents.specs.declared.agents.Owner.TheVariants as owner
use Rattle.nl_agentset_query.specs.Inputs.{as_agent}
use Rattle.nl_agentset_query.specs.Agents.{breed_or_none}
use Rattle.nl_birth.specs.Births.{Scene, created, sprouted, hatched}
use Rattle.nl_birth.specs.Links.{linked}
use Rattle.nl_birth.specs.Outcomes as births
use Rattle.nl_birth.specs.declared.way.Way.{Way}
use Rattle.nl_exec_acts.specs.declared.fail.ErrorKind.{ErrorKind}
use Rattle.nl_exec_acts.specs.declared.fail.ErrorKind.TheVariants.{WrongType, WrongContext, TooMany, LinkFault}
use Rattle.nl_exec_acts.specs.Stage.{Stage, bare, and_then}
use Rattle.nl_exec_acts.specs.Fails.{error_of_query, told_as}
use Rattle.nl_exec_acts.specs.Acts.{turtle_in}
use Rattle.nl_exec_meaning.specs.declared.words.Making.{Making}
use Rattle.nl_exec_meaning.specs.declared.words.Making.TheVariants as making
use Rattle.nl_exec_meaning.specs.State.{State, Outcome, Eval, goes_on, fails, come_to, with_part, with_number, with_stage, rest_of, ◌>>=◌}
use Rattle.nl_exec_meaning.specs.Running.{staying}
use Rattle.nl_exec_meaning.specs.Walks.{with_shuffled, walk_group}

-- ---- the block

-- the new agents run the block, where there is one; one without statements is run too
abbrev pub run_by_new : Eval → Node → ℕ → AgentKind → Serials → Option Node → State → Outcome
run_by_new prev t index which made None s = goes_on s
run_by_new prev t index which made (Some block) s = with_shuffled which made s (walk_group prev t index)

-- ---- what was made

-- All were made, or those that there was room for: what `after` says is left in both cases. Where nothing may be made all is left as it was.
abbrev pub made_by : {X : Type 0} → births.BirthOutcome X → (X → Stage → Stage) → Span → State → (Serials → State → Outcome) → Outcome
made_by (births.Made made now) after place s next = next made (with_stage (after now s.stage) s)
made_by (births.Filled now) after place s next = fails TooMany place (with_stage (after now s.stage) s)
made_by (births.Refused now) after place s next = fails LinkFault place s

abbrev pub scene_of : State → Scene
scene_of s = record { world = bare (rest_of s); stream = s.stage.stream }

abbrev pub after_scene : Scene → Stage → Stage
after_scene scene st = record st { rest = scene.world.rest; stream = scene.stream }

abbrev pub after_world : World → Stage → Stage
after_world w st = record st { rest = w.rest }

-- ---- births

-- a word of no breed hatches turtles of the parent's
abbrev pub bred_as : Option the_turtle.Turtle → Option BreedNumber → BreedNumber
bred_as parent (Some breed) = breed
bred_as None None = 0
bred_as (Some parent) None = parent.breed

abbrev pub patch_in : Owner → Result ℕ ErrorKind
patch_in (owner.Patch patch) = Ok patch
patch_in agent = Err WrongContext

-- the number of agents is given; what is made of whom
abbrev pub born_of : Making → Option BreedNumber → ℤ → Span → State → (Serials → State → Outcome) → Outcome
born_of (making.Create ordered) breed number place s next =
    made_by (created ordered (breed_or_none breed) number (scene_of s)) after_scene place s next
born_of making.Hatch breed number place s next =
    come_to (turtle_in s.site.agent) place s (λ parent.
    made_by (hatched parent (bred_as (turtle_of parent (rest_of s)) breed) number (bare (rest_of s))) after_world place s next)
born_of making.Sprout breed number place s next =
    come_to (patch_in s.site.agent) place s (λ patch. made_by (sprouted patch (breed_or_none breed) number (scene_of s)) after_scene place s next)
born_of (making.Link way one) breed number place s next = fails WrongType place s

-- ---- links

abbrev pub one_turtle : Owner → Result Serials ErrorKind
one_turtle (owner.Turtle turtle) = Ok (turtle ∷ [])
one_turtle agent = Err WrongType

abbrev pub turtles_or_wrong : Bool → Serials → Result Serials ErrorKind
turtles_or_wrong true members = Ok members
turtles_or_wrong false members = Err WrongType

abbrev pub turtles_in : Rest → Plain → Result Serials ErrorKind
turtles_in r (PlainSet set) = turtles_or_wrong (same_kind (set_kind set) kind.Turtle) (members_of r set)
turtles_in r value = Err WrongType

-- with whom links are to be made: one turtle, or those of a set of turtles
abbrev pub targets_in : Rest → Bool → Plain → Result Serials ErrorKind
targets_in r true value = and_then (told_as error_of_query (as_agent r value)) one_turtle
targets_in r false value = turtles_in r value

abbrev pub linked_by : Way → Bool → Option BreedNumber → Plain → Span → State → (Serials → State → Outcome) → Outcome
linked_by way one breed value place s next =
    come_to (turtle_in s.site.agent) place s (λ caller.
    come_to (targets_in (rest_of s) one value) place s (λ targets.
    made_by (linked way (breed_or_none breed) caller targets (bare (rest_of s))) after_world place s next))

-- ---- the words

-- what is made of the first input, and by whom the block is run
abbrev pub made_of : Making → Option BreedNumber → Plain → Span → State → (Serials → State → Outcome) → Outcome
made_of (making.Link way one) breed value place s next = linked_by way one breed value place s next
made_of word breed value place s next = with_number value place s (λ number. born_of word breed number place s next)

abbrev pub kind_made : Making → AgentKind
kind_made (making.Link way one) = kind.Link
kind_made word = kind.Turtle

-- the block is the second part, where one is written
abbrev pub making_case : Making → Option BreedNumber → Kinds → Eval → Node → State → Outcome
making_case word breed runs prev t s =
    with_part t 0 (span t) s (λ part. prev part s >>= λ value s1.
    staying runs s1 (
    made_of word breed value (span t) s1 (λ made s2. run_by_new prev t 1 (kind_made word) made (slice_get (parts t) 1) s2)))
