use Rattle.std.proofs.Common.{◌≡◌, take, filter, not}
use Rattle.nl_agentset.specs.Sets.{is_caller}
use Rattle.nl_agentset.proofs.sets.without.Given as goal

abbrev pub invariant-loop-number : goal.invariant-loop-number
invariant-loop-number l = l.rest.items ≡ filter (λ number. not (is_caller l.caller l.kind number)) (take l.number-index l.numbers)
