-- The agents are the second part.
use Rattle.std.proofs.Common.{◌∙◌}
use Rattle.nl_exec_meaning.specs.Seen.{state_of}
use Rattle.nl_exec_walks.proofs.Choosing.{of_framed}
use Rattle.nl_exec_walks.proofs.sets.enter_of.Goals as goal

pub returns-clause-meaning : goal.returns-clause-meaning
returns-clause-meaning g c = λ prev units thrifty.
    c.go.ensures.meaning prev units thrifty ∙ of_framed c.args.code.now c.args.node prev (state_of c.args.code.now.names c.args.hands.now units)
