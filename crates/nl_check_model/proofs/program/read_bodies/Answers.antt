use Rattle.std.proofs.Common.{[], ◌+◌, take, sym, arith, subst}
use Rattle.std.proofs.lemmas.Result.{err_from_is_err_and}
use Rattle.nl_tree.specs.Views.{plain}
use Rattle.nl_tree.specs.Vocabulary.{terms}
use Rattle.nl_check_model.specs.ModelFault.{AreBodies}
use Rattle.nl_check_model.proofs.Programs.{lies_within, procedure_there, read_all, read_more, refused_there}
use Rattle.nl_check_model.proofs.program.read_bodies.Goals as goal

pub procedures-init : goal.procedures-init
procedures-init c = subst (λ trees. AreBodies c.args.source.now.text.now c.args.source.now.tokens.now (terms c.args.declared.now) [] trees) (sym c.empty-bodies.ensures) tt

pub read_procedure-requires-clause-from : goal.read_procedure-requires-clause-from
read_procedure-requires-clause-from c =
    let ps = c.args.declared.now.procedures in
    let there = procedure_there c.as_slice-procedure-items.result.now ps c.procedures.procedure-index c.procedure-item.result c.as_slice-procedure-items.ensures c.procedures-test.true c.procedure-item.is in
    (lies_within c.args.source.now.text.now c.args.source.now.tokens.now 0 ps c.procedures.procedure-index c.procedure-item.result c.requires.bodies there).0

pub read_procedure-requires-clause-to : goal.read_procedure-requires-clause-to
read_procedure-requires-clause-to c =
    let ps = c.args.declared.now.procedures in
    let there = procedure_there c.as_slice-procedure-items.result.now ps c.procedures.procedure-index c.procedure-item.result c.as_slice-procedure-items.ensures c.procedures-test.true c.procedure-item.is in
    (lies_within c.args.source.now.text.now c.args.source.now.tokens.now 0 ps c.procedures.procedure-index c.procedure-item.result c.requires.bodies there).1

pub returns-in_err-body-clause-fault : goal.returns-in_err-body-clause-fault
returns-in_err-body-clause-fault c =
    let p = err_from_is_err_and c.from_residual.result c.from_residual.ensures.1 in
    let ps = c.args.declared.now.procedures in
    let there = procedure_there c.as_slice-procedure-items.result.now ps c.procedures.procedure-index c.procedure-item.result c.as_slice-procedure-items.ensures c.procedures-test.true c.procedure-item.is in
    rw (p.1, p.2) (refused_there c.args.source.now.text.now c.args.source.now.tokens.now (terms c.args.declared.now) ps c.procedures.bodies c.procedures.procedure-index c.procedure-item.result c.in_err-body.field-0.0 there c.procedures.invariant c.in_err-body.ensures.fault)

pub procedures-preserved : goal.procedures-preserved
procedures-preserved c =
    let ps = c.args.declared.now.procedures in
    let table = terms c.args.declared.now in
    let there = procedure_there c.as_slice-procedure-items.result.now ps c.procedures.procedure-index c.procedure-item.result c.as_slice-procedure-items.ensures c.procedures-test.true c.procedure-item.is in
    subst (λ trees. AreBodies c.args.source.now.text.now c.args.source.now.tokens.now table (take (c.procedures.procedure-index + 1) ps) trees) (sym c.in_ok-push.ensures.ok)
    (read_more c.args.source.now.text.now c.args.source.now.tokens.now table ps c.procedures.bodies c.procedures.procedure-index c.procedure-item.result (plain c.in_ok-body.body) there c.procedures.invariant c.in_ok-body.ensures.ok)

pub returns-clause-ok : goal.returns-clause-ok
returns-clause-ok c =
    read_all c.args.source.now.text.now c.args.source.now.tokens.now (terms c.args.declared.now) c.as_slice-procedure-items.result.now c.args.declared.now.procedures c.procedures.bodies c.procedures.procedure-index c.as_slice-procedure-items.ensures
    (omega (arith, c.procedures-test.false)) c.procedures.invariant
