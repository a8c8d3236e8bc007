use Rattle.std.proofs.Common.{◌≡◌, ◌++◌, take, codes}
use Rattle.nl_agents.specs.inner.Views.{counts_text}
use Rattle.nl_agents.proofs.view.agent_name.Given as goal

abbrev pub invariant-loop-number : goal.invariant-loop-number
invariant-loop-number l = l.name ≡ codes "(" ++ l.word ++ counts_text (take l.number-index l.numbers)
