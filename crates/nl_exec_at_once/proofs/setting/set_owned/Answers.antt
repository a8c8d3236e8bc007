-- A variable of agents becomes the number.
use Rattle.std.proofs.Common.{◌≡◌, true, Option, refl, ap, ◌∙◌, sym}
use Rattle.nl_value.specs.Plain.{Plain, PlainNumber}
use Rattle.nl_agents.specs.World.{World}
use Rattle.nl_agents.specs.Changes.{value_of, revalued}
use Rattle.nl_agents.specs.declared.agents.Owner.{Owner}
use Rattle.nl_agents_layout.specs.BuiltIn.{rule_of}
use Rattle.nl_exec_acts.specs.Stage.{bare, changed}
use Rattle.nl_exec_acts.specs.declared.fail.ErrorKind.TheVariants.{WrongType, NoVariable}
use Rattle.nl_exec_meaning.specs.State.{found, goes_on, with_stage, with_world}
use Rattle.nl_exec_meaning.specs.Variables.{kept_as}
use Rattle.nl_exec_meaning.specs.Seen.{state_of}
use Rattle.nl_exec_at_once.specs.AtOnce.{is_agent}
use Rattle.nl_exec_at_once.proofs.Owning.{value_of_agent, revalued_agent}
use Rattle.nl_exec_at_once.proofs.setting.set_owned.Goals as goal

pub returns-in-Ok-clause-set : goal.returns-in-Ok-clause-set
returns-in-Ok-clause-set g c = λ done code variable place n.
    let hands = c.args.hands.now in
    let w = g.S.Store.world hands.stage.store in
    let s = state_of code.names hands n in
    let slot = c.args.slot in
    let v = PlainNumber c.args.number in
    let o = c.owner_of-owner.result in
    let is : is_agent o ≡ true = sym c.is_agent.ensures ∙ c.if-not-is_agent.false in
    let whose = sym c.owner_of-owner.ensures.owner in
    let set = λ (x : Owner). goes_on (with_stage (changed (revalued x slot v) s.stage) s) in
    let kept = λ (x : Owner) (k : Option Plain). found k WrongType place s (λ new. goes_on (with_stage (changed (revalued x slot new) s.stage) s)) in
    let there = λ (x : Owner) (old : Option Plain). found old NoVariable variable s (λ o. kept x (kept_as (rule_of slot) v)) in
    c.if-not-lives_and_may_run.ensures.allowed refl code n variable _
    ∙ ap (λ (x : Owner). there x (value_of x slot (bare w.rest))) whose
    ∙ ap (there o) (value_of_agent o slot w is ∙ c.in-Ok.ensures.old)
    ∙ ap (kept o) (c.if-not-keeps_numbers.ensures refl c.args.number)
    ∙ sym (ap (λ (x : World). goes_on (with_world x s)) (c.in-Ok.ensures.set ∙ revalued_agent o slot v w is))
