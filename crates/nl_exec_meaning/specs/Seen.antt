-- What is held while a text runs, as the meaning of texts has it.
use Rattle.std.specs.Prelude.{ℕ}
use Rattle.nl_fixed.specs.Nouns.{Names}
use Rattle.nl_value.specs.Views.{plain}
use Rattle.nl_agents.specs.declared.store.Store.{Ghosts}
use Rattle.nl_exec_acts.specs.Stage.{scene, stage_of}
use Rattle.nl_exec_meaning.specs.State as meant
use Rattle.nl_exec_meaning.specs.State.{State, Outcome, ends}
use Rattle.nl_exec_meaning.specs.Kept.{all_held}
use Rattle.nl_exec_meaning.specs.Ground.{Ground, ground_of}
use Rattle.nl_exec_meaning.specs.declared.exits.Exit.{Exit}
use Rattle.nl_exec_meaning.specs.declared.exits.Exit.TheVariants.{Gives, Stopped, Reported, Left, Error}
use Rattle.nl_exec_meaning.specs.declared.hands.Hands.{Hands}

abbrev pub exit_seen : Exit → meant.Exit
exit_seen (Gives value) = meant.Gives (plain value)
exit_seen Stopped = meant.Stopped
exit_seen (Reported value) = meant.Reported (plain value)
exit_seen Left = meant.Left
exit_seen (Error kind at body) = meant.Error kind at body

-- the outcome of an end in a state
abbrev pub ended : Exit → State → Outcome
ended exit s = ends (exit_seen exit) s

-- the state that the hands stand for, with these units
abbrev pub state_of : {S : Type 0} {G : Ghosts S} → Names → Hands S G → ℕ → State
state_of {G = g} names h units = record {
  globals = (g.world h.stage.store).globals;
  stage = stage_of (scene (g.world h.stage.store) h.stage.ticks h.stage.stream);
  locals = all_held names h.locals;
  site = h.site;
  units = units;
}

-- what never changes of it
abbrev pub ground : {S : Type 0} {G : Ghosts S} → Hands S G → Ground
ground {G = g} h = ground_of (g.world h.stage.store).rest
