use Rattle.nl_agentset.proofs.LawLemmas.{others_but_the_caller}
use Rattle.nl_agentset.proofs.laws.others_are_all_but_the_caller.Goals as goal

pub returns : goal.returns
returns c = others_but_the_caller
