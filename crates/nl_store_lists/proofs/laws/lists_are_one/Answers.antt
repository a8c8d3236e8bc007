use Rattle.nl_store_lists.proofs.Threaded.{lists_are_one}
use Rattle.nl_store_lists.proofs.laws.lists_are_one.Goals as goal

pub returns : goal.returns
returns c = lists_are_one
