-- Those so far are agents.
use Rattle.std.proofs.Common.{◌≡◌, map, take}
use Rattle.nl_agentset_query.specs.Agents.{agent_value}
use Rattle.nl_exec_arrows.proofs.orders.agents_of.Given as goal

abbrev pub invariant-loop-number : goal.invariant-loop-number
invariant-loop-number l = l.items ≡ map (agent_value l.kind) (take l.number-index l.numbers)
