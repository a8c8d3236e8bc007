use Rattle.nl_store_lists.proofs.Rising.{rising-sorted}
use Rattle.nl_store_lists.proofs.laws.sorted_lists_rise.Goals as goal

pub returns : goal.returns
returns c = rising-sorted
