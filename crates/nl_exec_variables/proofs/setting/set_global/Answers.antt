-- A global variable of the model becomes the value.
use Rattle.std.proofs.Common.{Option, slice_set, ap, ◌∙◌, sym}
use Rattle.std.proofs.lemmas.Option.{slice_get_within}
use Rattle.nl_value.specs.Plain.{Plain}
use Rattle.nl_value.specs.Views.{plain}
use Rattle.nl_agents.specs.World.{World}
use Rattle.nl_exec_acts.specs.declared.fail.ErrorKind.TheVariants.{WrongType}
use Rattle.nl_exec_meaning.specs.State.{found, goes_on, with_world}
use Rattle.nl_exec_meaning.specs.Seen.{state_of}
use Rattle.nl_exec_meaning.proofs.Grounds.{fits_is}
use Rattle.nl_exec_variables.proofs.Assigning.{global_may_hold, global_revalued}
use Rattle.nl_exec_variables.proofs.setting.set_global.Goals as goal

pub set_var-requires-clause-holds : goal.set_var-requires-clause-holds
set_var-requires-clause-holds g c =
    let r = (g.S.Store.world c.args.hands.now.stage.store).rest in
    global_may_hold r c.args.slot (plain c.args.value) (sym (fits_is r (plain c.args.value)) ∙ c.requires.value)

pub returns-in-Ok-clause-meaning : goal.returns-in-Ok-clause-meaning
returns-in-Ok-clause-meaning g c = λ units.
    let hands = c.args.hands.now in
    let w = g.S.Store.world hands.stage.store in
    let s = state_of c.args.code.now.names hands units in
    let v = plain c.args.value in
    let there = sym c.in-Some.ensures.value in
    let inside = slice_get_within w.globals c.args.slot _ there in
    ap (λ (x : World). goes_on (with_world x s)) (c.in-Ok.ensures.set ∙ global_revalued w c.args.slot v inside)
    ∙ sym (ap (λ (o : Option Plain). found o WrongType c.args.place s (λ old. goes_on (record s { globals = slice_set s.globals c.args.slot v }))) there)
