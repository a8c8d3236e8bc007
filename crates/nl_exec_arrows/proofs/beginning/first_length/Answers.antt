-- The length of the first list.
use Rattle.std.proofs.Common.{◌∙◌, sym}
use Rattle.nl_exec_arrows.proofs.Beside.{first_is, none_first}
use Rattle.nl_exec_arrows.proofs.beginning.first_length.Goals as goal

pub returns-in-Some : goal.returns-in-Some
returns-in-Some c = c.length_of.ensures ∙ first_is _ _ (sym c.in-Some.ensures)

pub returns-in-None : goal.returns-in-None
returns-in-None c = none_first _ (sym c.in-None.ensures)
