-- The numbers of a procedure's inputs are those of their names.
use Rattle.std.proofs.Common.{slice_get, ap, sym}
use Rattle.nl_exec_meaning.proofs.Inputs.{input_right, no_inputs}
use Rattle.nl_exec_meaning.proofs.arena.Code.input.Goals as goal

pub returns-in-Some : goal.returns-in-Some
returns-in-Some c =
    let a = c.self.inside in
    let e = rw c.deref.ensures.value at c.in-Some.ensures in
    rw (← c.self.view_is, c.get.ensures) (input_right a.names a.inputs.items a.program.now.declared.procedures c.args.procedure c.args.at c.in-Some.ids.now c.self.invariant.inputs (sym e))

pub returns-in-None : goal.returns-in-None
returns-in-None c =
    let a = c.self.inside in
    let e = rw c.deref.ensures.value at c.in-None.ensures in
    rw (← c.self.view_is) (sym (ap (λ xs. slice_get xs c.args.at) (no_inputs a.names a.inputs.items a.program.now.declared.procedures c.args.procedure c.self.invariant.inputs (sym e))))
