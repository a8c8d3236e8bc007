use Rattle.nl_agentset.proofs.LawLemmas.{greater_reach_more}
use Rattle.nl_agentset.proofs.laws.greater_radii_reach_more.Goals as goal

pub returns : goal.returns
returns c = greater_reach_more
