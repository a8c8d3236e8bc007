-- What is left of a block, once its statements are done so far.
use Rattle.std.proofs.Common.{◌+◌, ◌-◌, ℕ, suc, List, drop, ap, ◌∙◌, sym}
use Rattle.nl_tree.specs.Tree.{Node, parts, span}
use Rattle.nl_exec_meaning.specs.Code.{node_at}
use Rattle.nl_exec_meaning.specs.Blocks.{statements}
use Rattle.nl_exec_meaning.specs.Meaning.{evaluator, limited}
use Rattle.nl_exec_meaning.specs.State.{State, goes_on}
use Rattle.nl_exec_meaning.specs.Seen.{state_of}
use Rattle.nl_exec_meaning.proofs.Newest.{held_length}
use Rattle.nl_exec_at_once.specs.declared.statements.TheConstants.{PLAIN_NESTED as plain_nested}
use Rattle.nl_exec_at_once.proofs.Cutting.{cut_state, cut_stands}
use Rattle.nl_exec_at_once.proofs.Taking.{part_comes_to}
use Rattle.nl_exec_at_once.proofs.statements.do_chosen.Goals as goal

pub returns-clause-done : goal.returns-clause-done
returns-clause-done g c = λ room n enough.
    let code = c.args.code.now in
    let block = c.in-Some.block in
    let kept = c.len-kept.result in
    let after = state_of code.names c.do_plain_statements-at.new.hands (c.do_plain_statements-at.new.units + n) in
    part_comes_to code c.args.word c.args.index block kept plain_nested
    (state_of code.names c.args.hands.now (c.args.units.now + n))
    (λ r. statements (evaluator code.program r) kept (drop c.do_plain_statements-at.result (parts (node_at code block))) after)
    (sym c.in-Some.ensures.value) (sym c.in-Statements.ensures.op)
    (held_length code.names c.args.hands.now.locals ∙ sym c.len-kept.ensures)
    (λ r deep. c.do_plain_statements-at.ensures.done r n kept deep) room enough

pub returns-in_default-part-clause-done : goal.returns-in_default-part-clause-done
returns-in_default-part-clause-done g c = λ room n enough.
    let code = c.args.code.now in
    let block = c.in-Some.block in
    let kept = c.len-kept.result in
    let hands = c.do_plain_statements-at.new.hands in
    let units = c.do_plain_statements-at.new.units + n in
    let after = state_of code.names hands units in
    let prev = λ (r : ℕ). evaluator code.program r in
    part_comes_to code c.args.word c.args.index block kept plain_nested
    (state_of code.names c.args.hands.now (c.args.units.now + n))
    (λ r. statements (prev r) kept (drop c.do_plain_statements-at.result (parts (node_at code block))) after)
    (sym c.in-Some.ensures.value) (sym c.in-Statements.ensures.op)
    (held_length code.names c.args.hands.now.locals ∙ sym c.len-kept.ensures)
    (λ r deep. c.do_plain_statements-at.ensures.done r n kept deep) room enough
    ∙ ap (λ (ts : List Node). limited (span (node_at code c.args.word)) (limited (span (node_at code block)) (statements (prev (suc room - 2)) kept ts after)))
    c.in_default-part.ensures.rest
    ∙ ap (λ (s : State). goes_on s) (cut_state hands kept c.truncate.new.self c.truncate.ensures code.names units)

pub returns-in_default-part-clause-stands : goal.returns-in_default-part-clause-stands
returns-in_default-part-clause-stands g c =
    cut_stands c.do_plain_statements-at.new.hands c.len-kept.result c.truncate.new.self c.truncate.ensures c.args.hands.now c.do_plain_statements-at.ensures.stands
