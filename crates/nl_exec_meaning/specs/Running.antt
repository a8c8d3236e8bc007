-- Who may run a word. A dead agent leaves at a word that the observer may not run: this is tested before the word's inputs and again before it
-- acts, and comes before the test of the kind. How far a dead agent still goes is this project's own choice.
use Rattle.std.specs.Prelude.{◌&&◌, Bool, not}
use Rattle.nl_fixed.specs.declared.span.Span.{Span}
use Rattle.nl_words.specs.declared.entry.Kinds.{Kinds}
use Rattle.nl_tree.specs.Context.{Kind, Observer, Turtle, Patch, Link, allows}
use Rattle.nl_agents.specs.declared.agents.Owner.{Owner}
use Rattle.nl_agents.specs.declared.agents.Owner.TheVariants as owner
use Rattle.nl_exec_acts.specs.Acts.{is_gone}
use Rattle.nl_exec_acts.specs.declared.fail.ErrorKind.TheVariants.{WrongContext}
use Rattle.nl_exec_meaning.specs.State.{State, Outcome, Left, ends, fails, choose, rest_of}

abbrev pub kind_of : Owner → Kind
kind_of owner.Observer = Observer
kind_of (owner.Turtle turtle) = Turtle
kind_of (owner.Patch patch) = Patch
kind_of (owner.Link link) = Link

-- the agent that runs has died
abbrev pub is_dead : State → Bool
is_dead s = is_gone (rest_of s) s.site.agent

abbrev pub leaves_at : Kinds → State → Bool
leaves_at runs s = is_dead s && not runs.observer

-- goes on where the agent doesn't leave at the word
abbrev pub staying : Kinds → State → Outcome → Outcome
staying runs s next = choose (leaves_at runs s) (ends Left s) next

-- goes on where it doesn't leave and is of a kind that may run the word
abbrev pub allowed : Kinds → Span → State → Outcome → Outcome
allowed runs place s next = staying runs s (choose (allows runs (kind_of s.site.agent)) next (fails WrongContext place s))
