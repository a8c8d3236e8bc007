-- What the call that performs an act owes.
use Rattle.std.specs.Prelude.{◌≡◌, Bool, true, IsTrue, Result, IfOk, OnErr}
use Rattle.nl_value.specs.Plain.{Plain}
use Rattle.nl_value.specs.Views.{plain}
use Rattle.nl_value.specs.declared.values.Value.{Value}
use Rattle.nl_agents.specs.World.{Rest}
use Rattle.nl_agents.specs.Names.{patch_fits}
use Rattle.nl_agents.specs.Standing.{fits_rest}
use Rattle.nl_agents.specs.declared.agents.Owner.{Owner}
use Rattle.nl_agents.specs.declared.agents.Owner.TheVariants as owner
use Rattle.nl_exec_acts.specs.declared.fail.ActFail.{ActFail}
use Rattle.nl_exec_acts.specs.Stage.{Stage, Scene, stage_of, ActOutcome, Gives}

-- who runs a word, or asked: a patch is one of the world; another agent may have died
abbrev pub owner_fits : Rest → Owner → Bool
owner_fits r (owner.Patch patch) = patch_fits r patch
owner_fits r owner.Observer = true
owner_fits r (owner.Turtle turtle) = true
owner_fits r (owner.Link link) = true

-- What it gives and leaves is the outcome, unless it wants memory. No global variable is changed, an answer fits the world after it, and an error,
-- as want of memory, leaves all as it was.
pub record Performs (result : Result Value ActFail) (before after : Scene) (outcome : ActOutcome (Plain × Stage)) : Type 0 where
  pub answer : Gives (λ value. (plain value, stage_of after)) result outcome
  pub globals : after.world.globals ≡ before.world.globals
  pub fit : IfOk result (λ value. IsTrue (fits_rest after.world.rest (plain value)))
  pub stays : OnErr result (after ≡ before)
