use Rattle.nl_agents.proofs.Setting.{back_again}
use Rattle.nl_agents.proofs.laws.there_and_back.Goals as goal

pub returns : goal.returns
returns c = back_again
