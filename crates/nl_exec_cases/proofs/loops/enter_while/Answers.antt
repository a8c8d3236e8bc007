-- A loop that ends by its units is its own step.
use Rattle.std.proofs.Common.{◌∙◌, sym}
use Rattle.nl_exec_meaning.specs.Code.{node_at}
use Rattle.nl_exec_meaning.proofs.Loops.{while_unfolds}
use Rattle.nl_exec_meaning.specs.Seen.{state_of}
use Rattle.nl_exec_cases.proofs.loops.enter_while.Goals as goal

pub returns-clause-meaning : goal.returns-clause-meaning
returns-clause-meaning g c = λ prev n thrifty.
    c.want.ensures.meaning prev n thrifty
    ∙ sym (while_unfolds prev thrifty (node_at c.args.code.now c.args.node) (state_of c.args.code.now.names c.args.hands.now n))
