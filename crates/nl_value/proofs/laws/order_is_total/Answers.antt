use Rattle.nl_value.proofs.Ordered.{is_ordered}
use Rattle.nl_value.proofs.laws.order_is_total.Goals as goal

pub returns : goal.returns
returns c = is_ordered
