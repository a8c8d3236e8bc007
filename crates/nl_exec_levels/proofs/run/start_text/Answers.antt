-- A lone text begins by its statements, where there is room for its node.
use Rattle.std.proofs.Common.{suc, ◌-◌, ◌<◌, length, ap, ◌∙◌, arith}
use Rattle.nl_tree.specs.Tree.{span}
use Rattle.nl_exec_meaning.specs.Code.{node_at}
use Rattle.nl_exec_meaning.specs.Meaning.{evaluator, limited}
use Rattle.nl_exec_meaning.proofs.Thrift.{thrifty}
use Rattle.nl_exec_meaning.specs.Seen.{ground, state_of}
use Rattle.nl_exec_levels.specs.Rest.{through}
use Rattle.nl_exec_levels.proofs.Stack.{rest_text}
use Rattle.nl_exec_levels.proofs.run.start_text.Goals as goal

pub returns-clause-rest : goal.returns-clause-rest
returns-clause-rest g c = λ n.
    let code = c.args.code.now in
    let ls = c.args.levels.now.items in
    let below = c.args.limit - suc (length ls) in
    let lt : length ls < c.args.limit = omega (arith, c.args.levels.now.ok.0) in
    c.in_ok-focus.ensures.rest c.args.limit n lt
    ∙ ap (λ o. through code c.args.limit ls (limited (span (node_at code c.args.node)) o))
    (c.enter_text-next.ensures.meaning (evaluator code.program below) n (thrifty code.program below))
    ∙ rest_text code c.args.limit ls c.args.node (state_of code.names c.args.hands.now n) lt

pub returns-then-len-limit-clause-focus : goal.returns-then-len-limit-clause-focus
returns-then-len-limit-clause-focus g c = c.too_nested.ensures.fits (ground c.args.hands.now)
