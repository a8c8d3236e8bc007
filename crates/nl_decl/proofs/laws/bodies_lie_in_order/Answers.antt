use Rattle.nl_decl.proofs.BodyOrder.{procedures_in_order}
use Rattle.nl_decl.proofs.laws.bodies_lie_in_order.Goals as goal

pub returns : goal.returns
returns c = procedures_in_order
