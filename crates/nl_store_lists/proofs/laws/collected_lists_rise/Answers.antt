use Rattle.nl_store_lists.proofs.Collected.{collect-without, collected-is, rising-collect}
use Rattle.nl_store_lists.proofs.laws.collected_lists_rise.Goals as goal

pub returns-clause-those : goal.returns-clause-those
returns-clause-those c = collected-is

pub returns-clause-rise : goal.returns-clause-rise
returns-clause-rise c = rising-collect

pub returns-clause-without : goal.returns-clause-without
returns-clause-without c = collect-without
