use Rattle.nl_agents.proofs.Holding.{values_fit}
use Rattle.nl_agents.proofs.laws.values_fit.Goals as goal

pub returns : goal.returns
returns c = values_fit
