-- What is left of the block, once its statements are done so far.
use Rattle.std.proofs.Common.{◌+◌, ◌-◌, List, Option, ap, ◌∙◌}
use Rattle.nl_tree.specs.Tree.{Node, span}
use Rattle.nl_exec_meaning.specs.Code.{node_at}
use Rattle.nl_exec_meaning.specs.Blocks.{statements}
use Rattle.nl_exec_meaning.specs.Meaning.{evaluator, limited}
use Rattle.nl_exec_meaning.specs.State.{State, goes_on}
use Rattle.nl_exec_meaning.specs.Seen.{state_of}
use Rattle.nl_exec_at_once.specs.AtOnce.{far_by}
use Rattle.nl_exec_at_once.specs.declared.statements.Inside.{Inside}
use Rattle.nl_exec_at_once.proofs.Cutting.{cut_state, cut_stands}
use Rattle.nl_exec_at_once.proofs.Taking.{block_done_so_far}
use Rattle.nl_exec_at_once.proofs.turns.do_block.Goals as goal

pub returns-in-Some-clause-done : goal.returns-in-Some-clause-done
returns-in-Some-clause-done g c =
    let done = c.do_statements-far in
    block_done_so_far c.args.code.now c.args.block c.len-kept.result done.result done.new.hands done.new.units c.args.hands.now c.args.units.now
    c.requires.block c.len-kept.ensures done.ensures.done

pub returns-clause-done : goal.returns-clause-done
returns-clause-done g c =
    let done = c.do_statements-far in
    block_done_so_far c.args.code.now c.args.block c.len-kept.result done.result done.new.hands done.new.units c.args.hands.now c.args.units.now
    c.requires.block c.len-kept.ensures done.ensures.done

pub returns-in_default-part-clause-done : goal.returns-in_default-part-clause-done
returns-in_default-part-clause-done g c = λ room n enough.
    let code = c.args.code.now in
    let block = c.args.block in
    let kept = c.len-kept.result in
    let done = c.do_statements-far in
    let units = done.new.units + n in
    let after = state_of code.names done.new.hands units in
    block_done_so_far code block kept done.result done.new.hands done.new.units c.args.hands.now c.args.units.now
    c.requires.block c.len-kept.ensures done.ensures.done room n enough
    ∙ ap (λ (o : Option Inside). limited (span (node_at code block)) (far_by code (room - 1) block kept done.result.at o after)) c.in_default.is
    ∙ ap (λ (ts : List Node). limited (span (node_at code block)) (statements (evaluator code.program (room - 1)) kept ts after)) c.in_default-part.ensures.rest
    ∙ ap (λ (s : State). goes_on s) (cut_state done.new.hands kept c.truncate.new.self c.truncate.ensures code.names units)

pub returns-in_default-part-clause-stands : goal.returns-in_default-part-clause-stands
returns-in_default-part-clause-stands g c =
    cut_stands c.do_statements-far.new.hands c.len-kept.result c.truncate.new.self c.truncate.ensures c.args.hands.now c.do_statements-far.ensures.stands
