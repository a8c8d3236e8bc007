-- One name more has its number.
use Rattle.std.proofs.Common.{take, arith}
use Rattle.nl_exec_meaning.proofs.Lists.{take_next, grows_on}
use Rattle.nl_exec_meaning.proofs.Inputs.{is_inputs_push}
use Rattle.nl_exec_meaning.proofs.resolve.number_all.Goals as goal

pub loop-name-preserved : goal.loop-name-preserved
loop-name-preserved c =
    let old = c.loop-name.names in
    let new = c.number.new.self in
    let g = c.in_ok-id.ensures.grows in
    let list = c.args.list.now in
    let more = take_next list c.loop-name.name-index c.name-item.result (omega arith) c.name-item.is in
    record {
      numbers = rw more (is_inputs_push old new g c.loop-name.ids c.push.new.self (take c.loop-name.name-index list) c.in_ok-id.id c.name-item.result c.loop-name.invariant.numbers c.in_ok-id.ensures.number c.in_ok-push.ensures);
      grows = grows_on c.args.names.now old new c.loop-name.invariant.grows g;
      apart = λ h. c.in_ok-id.ensures.apart;
    }
