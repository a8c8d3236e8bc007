use Rattle.nl_agentset.proofs.LawLemmas.{union_ascends}
use Rattle.nl_agentset.proofs.laws.unions_ascend.Goals as goal

pub returns : goal.returns
returns c = union_ascends
