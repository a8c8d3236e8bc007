-- The move is by the number that the part gives.
use Rattle.nl_value.specs.Plain.{PlainNumber}
use Rattle.nl_tree.specs.Tree.{parts}
use Rattle.nl_exec_meaning.specs.Code.{node_at}
use Rattle.nl_exec_meaning.specs.Meaning.{evaluator}
use Rattle.nl_exec_meaning.specs.Seen.{state_of}
use Rattle.nl_exec_short.proofs.Drawing.{one_value, stays_behind}
use Rattle.nl_exec_at_once.proofs.Moves.{draws_before, only_part}
use Rattle.nl_exec_at_once.proofs.moving.move_by_one.Goals as goal

pub returns-clause-done : goal.returns-clause-done
returns-clause-done g c moved breed runs room n some stays =
    let code = c.args.code.now in
    let t = node_at code c.args.node in
    let part = node_at code c.in-Some.part in
    let prev = evaluator code.program room in
    let between = c.drawn.new.hands in
    let s = state_of code.names c.args.hands.now n in
    let s1 = state_of code.names between n in
    c.move_now.ensures.done moved code.names breed runs prev t s n
    (λ next. one_value prev (parts t) part (PlainNumber c.in-Some-drawn.number) s s1 next (only_part (parts t) part c.requires.one c.in-Some.ensures.rest)
    (c.in-Some-drawn.ensures.drawn room n some))
    (stays_behind runs s s1 between.stage.stream (c.drawn.ensures.draws code.names n) stays)

pub returns-clause-not : goal.returns-clause-not
returns-clause-not g c stays =
    draws_before c.move_now.new.hands c.drawn.new.hands c.args.hands.now (c.move_now.ensures.not stays) c.drawn.ensures.draws
