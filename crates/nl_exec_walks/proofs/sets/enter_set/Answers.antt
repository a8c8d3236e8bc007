-- The set is the first part.
use Rattle.std.proofs.Common.{◌∙◌}
use Rattle.nl_exec_meaning.specs.Seen.{state_of}
use Rattle.nl_exec_walks.proofs.Choosing.{set_first}
use Rattle.nl_exec_walks.proofs.sets.enter_set.Goals as goal

pub returns-in_default-clause-meaning : goal.returns-in_default-clause-meaning
returns-in_default-clause-meaning g c = λ prev units thrifty.
    c.go-in_default.ensures.meaning prev units thrifty
    ∙ set_first c.args.code.now c.args.node c.args.word prev (state_of c.args.code.now.names c.args.hands.now units) c.requires c.in_default.not-SortOn
