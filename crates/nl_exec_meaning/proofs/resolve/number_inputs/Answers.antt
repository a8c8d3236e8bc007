-- One procedure more has the numbers of its inputs.
use Rattle.std.proofs.Common.{take, arith}
use Rattle.nl_exec_meaning.proofs.Lists.{take_next, take_past, grows_on}
use Rattle.nl_exec_meaning.proofs.Inputs.{inputs_push}
use Rattle.nl_exec_meaning.proofs.resolve.number_inputs.Goals as goal

pub loop-procedure-preserved : goal.loop-procedure-preserved
loop-procedure-preserved c =
    let old = c.loop-procedure.names in
    let new = c.number_all.new.names in
    let g = c.number_all.ensures.grows in
    let list = c.args.procedures.now in
    let i = c.loop-procedure.procedure-index in
    let more = take_next list i c.procedure-item.result (omega arith) c.procedure-item.is in
    record {
      numbers = rw more
          (inputs_push old new g c.loop-procedure.inputs.items c.push.new.self.items (take i list) c.in_ok-ids.ids c.procedure-item.result
          c.loop-procedure.invariant.numbers (rw c.as_slice.ensures at c.in_ok-ids.ensures.numbers) c.in_ok-push.ensures.items);
      grows = grows_on c.args.names.now old new c.loop-procedure.invariant.grows g;
      apart = λ h. c.number_all.ensures.apart (c.loop-procedure.invariant.apart h);
    }

pub returns-clause-numbers : goal.returns-clause-numbers
returns-clause-numbers c =
    let all = take_past c.args.procedures.now c.loop-procedure.procedure-index (omega (arith, c.loop-procedure-test.false)) in
    rw all at c.loop-procedure.invariant.numbers
