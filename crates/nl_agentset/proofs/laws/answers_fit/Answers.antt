use Rattle.nl_agentset.proofs.LawLemmas.{each_answer_fits}
use Rattle.nl_agentset.proofs.laws.answers_fit.Goals as goal

pub returns : goal.returns
returns c = each_answer_fits
