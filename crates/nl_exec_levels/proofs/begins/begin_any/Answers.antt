-- What is next is what the node means.
use Rattle.nl_exec_meaning.specs.Code.{node_at}
use Rattle.nl_exec_meaning.specs.Meaning.{cases}
use Rattle.nl_exec_levels.proofs.Following.{comes_to}
use Rattle.nl_exec_levels.proofs.begins.begin_any.Goals as goal

pub returns-clause-rest : goal.returns-clause-rest
returns-clause-rest g c =
    let code = c.args.code.now in
    let t = node_at code c.args.node in
    comes_to code c.args.levels.now.items c.args.node (λ prev s. cases code.program prev t s)
    c.follow.new.levels.items c.in_ok-focus.focus c.in_ok-next.next c.enter.new.hands c.args.hands.now
    c.in_ok-focus.ensures.rest c.in_ok-next.ensures.meaning
