use Rattle.nl_agents.proofs.Setting.{breeds_change, births_copy, births_give}
use Rattle.nl_agents.proofs.laws.breeds_and_births.Goals as goal

pub returns : goal.returns
returns c = record { breeds = breeds_change; copies = births_copy; first = births_give }
