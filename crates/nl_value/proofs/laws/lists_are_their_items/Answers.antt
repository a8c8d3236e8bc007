use Rattle.nl_value.proofs.Lists.{is_listed}
use Rattle.nl_value.proofs.laws.lists_are_their_items.Goals as goal

pub returns : goal.returns
returns c = is_listed
