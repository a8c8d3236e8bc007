use Rattle.std.proofs.lemmas.Result.{err_from_is_err_and}
use Rattle.nl_tree.specs.Vocabulary.{terms}
use Rattle.nl_parse_grammar.proofs.Meant.{tokens_are_plain}
use Rattle.nl_check_model.specs.ModelFault.{IsRead}
use Rattle.nl_check_model.proofs.Programs.{bodies_fit, bodies_many, bodies_refuse, checked_says}
use Rattle.nl_check_model.proofs.program.read_program.Goals as goal

pub returns-in_err-declared : goal.returns-in_err-declared
returns-in_err-declared c =
    let p = err_from_is_err_and c.from_residual.result c.from_residual.ensures.1 in
    rw (p.1, p.2) c.in_err-declared.ensures.fault

pub returns-in_err-bodies : goal.returns-in_err-bodies
returns-in_err-bodies c =
    let p = err_from_is_err_and c.from_residual-in_err-bodies.result c.from_residual-in_err-bodies.ensures.1 in
    let d = c.in_ok-declared.declared in
    rw (p.1, p.2) (bodies_refuse c.args.widgets c.args.source.now.text.now c.args.source.now.tokens.now d c.in_err-bodies.field-0.0
    c.in_ok-declared.ensures.declared c.in_err-bodies.ensures.fault)

pub checked-requires-clause-many : goal.checked-requires-clause-many
checked-requires-clause-many c =
    let d = c.in_ok-declared.declared in
    bodies_many c.args.source.now.text.now c.args.source.now.tokens.now (terms d) d.procedures c.in_ok-bodies.bodies c.in_ok-bodies.ensures.ok

pub checked-requires-clause-fit : goal.checked-requires-clause-fit
checked-requires-clause-fit c =
    let text = c.args.source.now.text.now in
    let tokens = c.args.source.now.tokens.now in
    bodies_fit text tokens c.in_ok-declared.declared c.in_ok-bodies.bodies (tokens_are_plain text tokens c.args.source.now.scanned) c.in_ok-bodies.ensures.ok

pub returns : goal.returns
returns c =
    let text = c.args.source.now.text.now in
    let tokens = c.args.source.now.tokens.now in
    let d = c.in_ok-declared.declared in
    let bodies = c.in_ok-bodies.bodies in
    let read : IsRead c.args.widgets text tokens d bodies = record { declares = c.in_ok-declared.ensures.declared; trees = c.in_ok-bodies.ensures.ok } in
    checked_says c.args.widgets text tokens d bodies c.checked.result read c.checked.ensures.declared c.checked.ensures.bodies c.checked.ensures.right c.checked.ensures.refused
