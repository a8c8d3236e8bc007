-- The move is by the numbers that the parts give, one after the other.
use Rattle.nl_value.specs.Plain.{PlainNumber}
use Rattle.nl_tree.specs.Tree.{parts}
use Rattle.nl_exec_meaning.specs.Code.{node_at}
use Rattle.nl_exec_meaning.specs.Meaning.{evaluator}
use Rattle.nl_exec_meaning.specs.Seen.{state_of}
use Rattle.nl_exec_short.proofs.Drawing.{draws_through, stays_behind, two_in_order}
use Rattle.nl_exec_at_once.proofs.Moves.{both_parts, draws_before}
use Rattle.nl_exec_at_once.proofs.moving.move_by_two.Goals as goal

pub returns-in_default-drawn-2-clause-not : goal.returns-in_default-drawn-2-clause-not
returns-in_default-drawn-2-clause-not g c stays =
    draws_through c.drawn-2.new.hands c.drawn.new.hands c.args.hands.now c.drawn-2.ensures.draws c.drawn.ensures.draws

pub returns-clause-done : goal.returns-clause-done
returns-clause-done g c moved breed runs room n some stays =
    let code = c.args.code.now in
    let t = node_at code c.args.node in
    let x = node_at code c.in-Some.first in
    let y = node_at code c.in-Some-part.second in
    let prev = evaluator code.program room in
    let last = c.drawn-2.new.hands in
    let s = state_of code.names c.args.hands.now n in
    let s1 = state_of code.names c.drawn.new.hands n in
    let s2 = state_of code.names last n in
    let draws = draws_through last c.drawn.new.hands c.args.hands.now c.drawn-2.ensures.draws c.drawn.ensures.draws in
    c.move_now.ensures.done moved code.names breed runs prev t s n
    (λ next. two_in_order prev (parts t) x y (PlainNumber c.in-Some-drawn.a) (PlainNumber c.in-Some-drawn-2.b) s s1 s2 next
    (both_parts (parts t) x y c.requires.two c.in-Some.ensures.rest c.in-Some-part.ensures.rest)
    (c.in-Some-drawn.ensures.drawn room n some) (c.in-Some-drawn-2.ensures.drawn room n some))
    (stays_behind runs s s2 last.stage.stream (draws code.names n) stays)

pub returns-clause-not : goal.returns-clause-not
returns-clause-not g c stays =
    let last = c.drawn-2.new.hands in
    draws_before c.move_now.new.hands last c.args.hands.now (c.move_now.ensures.not stays)
    (draws_through last c.drawn.new.hands c.args.hands.now c.drawn-2.ensures.draws c.drawn.ensures.draws)
