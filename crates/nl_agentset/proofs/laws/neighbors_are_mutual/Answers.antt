use Rattle.nl_agentset.proofs.LawLemmas.{undirected_both_ways}
use Rattle.nl_agentset.proofs.laws.neighbors_are_mutual.Goals as goal

pub returns-clause-undirected : goal.returns-clause-undirected
returns-clause-undirected c = undirected_both_ways
