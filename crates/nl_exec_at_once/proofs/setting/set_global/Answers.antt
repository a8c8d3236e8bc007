-- A global variable of the model becomes the number.
use Rattle.std.proofs.Common.{Option, slice_set, ap, ◌∙◌, sym}
use Rattle.std.proofs.lemmas.Option.{slice_get_within}
use Rattle.nl_value.specs.Plain.{Plain, PlainNumber}
use Rattle.nl_agents.specs.World.{World}
use Rattle.nl_exec_acts.specs.declared.fail.ErrorKind.TheVariants.{WrongType}
use Rattle.nl_exec_meaning.specs.State.{found, goes_on, with_world}
use Rattle.nl_exec_meaning.specs.Seen.{state_of}
use Rattle.nl_exec_short.proofs.Assigned.{global_revalued}
use Rattle.nl_exec_at_once.proofs.setting.set_global.Goals as goal

pub returns-in-Ok-clause-set : goal.returns-in-Ok-clause-set
returns-in-Ok-clause-set g c = λ done code place n.
    let hands = c.args.hands.now in
    let w = g.S.Store.world hands.stage.store in
    let s = state_of code.names hands n in
    let v = PlainNumber c.args.number in
    let there = sym c.in-Some.ensures.value in
    let inside = slice_get_within w.globals c.args.slot _ there in
    ap (λ (o : Option Plain). found o WrongType place s (λ old. goes_on (record s { globals = slice_set s.globals c.args.slot v }))) there
    ∙ sym (ap (λ (x : World). goes_on (with_world x s)) (c.in-Ok.ensures.set ∙ global_revalued w c.args.slot v inside))
