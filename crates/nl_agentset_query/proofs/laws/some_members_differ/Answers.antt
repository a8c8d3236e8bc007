use Rattle.nl_agentset_query.proofs.Chosen.{some_ascend}
use Rattle.nl_agentset_query.proofs.laws.some_members_differ.Goals as goal

pub returns : goal.returns
returns c = some_ascend
