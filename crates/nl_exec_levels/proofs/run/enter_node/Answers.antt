-- A node is one of the cases, where there is room for it.
use Rattle.std.proofs.Common.{◌<◌, length, ◌∙◌, arith}
use Rattle.nl_exec_meaning.specs.Seen.{ground, state_of}
use Rattle.nl_exec_levels.proofs.Stack.{rest_enter}
use Rattle.nl_exec_levels.proofs.run.enter_node.Goals as goal

pub returns-clause-rest : goal.returns-clause-rest
returns-clause-rest g c = λ n.
    let code = c.args.code.now in
    let ls = c.args.levels.now.items in
    let lt : length ls < c.args.limit = omega (arith, c.args.levels.now.ok.0) in
    c.in_ok-focus.ensures.rest c.args.limit n lt
    ∙ rest_enter code c.args.limit ls c.args.node (state_of code.names c.args.hands.now n) lt

pub returns-then-len-limit-clause-focus : goal.returns-then-len-limit-clause-focus
returns-then-len-limit-clause-focus g c = c.too_nested.ensures.fits (ground c.args.hands.now)
