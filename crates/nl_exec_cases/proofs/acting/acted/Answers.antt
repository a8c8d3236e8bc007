-- What an act takes and gives fits the world.
use Rattle.std.proofs.Common.{ap, ◌∙◌, sym}
use Rattle.nl_agentset_query.specs.Inputs.{inputs_fit}
use Rattle.nl_value.specs.Views.{plain}
use Rattle.nl_exec_acts.specs.Stage.{scene, stage_of}
use Rattle.nl_exec_meaning.proofs.Ground.{performed_ground}
use Rattle.nl_exec_meaning.proofs.Grounds.{all_fit_is, agent_fits_is, fits_is}
use Rattle.nl_exec_meaning.proofs.Standing.{ground_same, stands_on}
use Rattle.nl_exec_cases.proofs.acting.acted.Goals as goal

pub perform-requires-clause-inputs : goal.perform-requires-clause-inputs
perform-requires-clause-inputs g c =
    let r = (g.S.Store.world c.args.hands.now.stage.store).rest in
    ap (inputs_fit r) c.as_slice.ensures ∙ sym (all_fit_is r c.args.made.now) ∙ c.requires.made

pub perform-requires-clause-agent : goal.perform-requires-clause-agent
perform-requires-clause-agent g c =
    let r = (g.S.Store.world c.args.hands.now.stage.store).rest in
    sym (agent_fits_is r c.args.hands.now.site.agent) ∙ c.requires.fit.site.agent

pub perform-requires-clause-asker : goal.perform-requires-clause-asker
perform-requires-clause-asker g c =
    let r = (g.S.Store.world c.args.hands.now.stage.store).rest in
    sym (agent_fits_is r c.args.hands.now.site.asker) ∙ c.requires.fit.site.asker

pub returns-in-Ok-clause-fits : goal.returns-in-Ok-clause-fits
returns-in-Ok-clause-fits g c =
    let r = (g.S.Store.world c.perform.new.stage.store).rest in
    fits_is r (plain c.in-Ok.value) ∙ c.in-Ok.ensures.fit

pub returns-in-Ok-clause-stands : goal.returns-in-Ok-clause-stands
returns-in-Ok-clause-stands g c =
    let hands = c.args.hands.now in
    let before = scene (g.S.Store.world hands.stage.store) hands.stage.ticks hands.stage.stream in
    let after = c.perform.new.stage in
    let now = scene (g.S.Store.world after.store) after.ticks after.stream in
    let same = performed_ground c.args.act c.args.breed hands.site.agent hands.site.asker _ (stage_of before) (plain c.in-Ok.value, stage_of now) c.in-Ok.ensures.answer in
    stands_on _ hands c.requires.fit.locals c.requires.fit.site (ground_same now.world.rest before.world.rest same)
