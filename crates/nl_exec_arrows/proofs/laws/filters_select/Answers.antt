use Rattle.nl_exec_arrows.proofs.Selecting.{filters_select}
use Rattle.nl_exec_arrows.proofs.laws.filters_select.Goals as goal

pub returns : goal.returns
returns c = filters_select
