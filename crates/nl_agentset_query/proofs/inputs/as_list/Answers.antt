use Rattle.std.proofs.Common.{arith}
use Rattle.nl_agentset_query.proofs.Fitting.{items_of_plains}
use Rattle.nl_agentset_query.proofs.inputs.as_list.Goals as goal

pub returns-in-Items : goal.returns-in-Items
returns-in-Items c = grind (arith, items_of_plains)
