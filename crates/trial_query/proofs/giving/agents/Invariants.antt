use Rattle.std.specs.Bool.{IsTrue}
use Rattle.nl_agentset_query.specs.Inputs.{inputs_fit}
use Rattle.trial_query.proofs.giving.agents.Given as goal

abbrev pub invariant-loop-agent : goal.invariant-loop-agent
invariant-loop-agent g l = IsTrue (inputs_fit (g.S.Store.world l.tried.store).rest l.items)
