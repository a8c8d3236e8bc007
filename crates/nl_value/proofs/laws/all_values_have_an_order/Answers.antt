use Rattle.nl_value.proofs.OrderOfAll.{is_order_of_all}
use Rattle.nl_value.proofs.laws.all_values_have_an_order.Goals as goal

pub returns : goal.returns
returns c = is_order_of_all
