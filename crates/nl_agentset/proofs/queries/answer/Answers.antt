use Rattle.std.proofs.Common.{map, refl}
use Rattle.nl_value.specs.Views.{plain}
use Rattle.nl_agentset.proofs.Answering.{fits_so, told_fits_so, stays_so, told_so}
use Rattle.nl_agentset.proofs.ChosenFits.{chosen_fits}
use Rattle.nl_agentset.proofs.Fits.{told_fits}
use Rattle.nl_agentset.proofs.queries.answer.Goals as goal

pub returns-in-Choice-clause-fit : goal.returns-in-Choice-clause-fit
returns-in-Choice-clause-fit g c =
    let r = (g.S.Store.world c.args.view.now.store.now).rest in
    fits_so r c.chosen_by.result c.chosen_by.new.stream _ c.chosen_by.ensures.answer (chosen_fits r c.in-Choice.which (map plain c.args.inputs.now) c.args.stream.now c.requires.fit)

pub returns-in_default : goal.returns-in_default
returns-in_default g c =
    let w = g.S.Store.world c.args.view.now.store.now in
    let inputs = map plain c.args.inputs.now in
    record {
      answer = told_so w.rest c.args.breed c.args.caller c.args.word inputs c.args.stream.now c.told.result c.in_default.not-Choice c.told.ensures.answer;
      fit = told_fits_so w.rest c.told.result _ c.told.ensures.answer (told_fits w c.shape-stands.ensures.stands c.args.breed c.args.caller c.args.word inputs c.requires.lives c.requires.breed);
      stays = stays_so c.told.result _ refl;
      reads = c.told.ensures.reads;
    }
