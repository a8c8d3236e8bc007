-- The items of the one list.
use Rattle.std.proofs.Common.{◌∙◌}
use Rattle.nl_exec_arrows.proofs.Ones.{first_long}
use Rattle.nl_exec_arrows.proofs.beginning.length_of_one.Goals as goal

pub returns-in-Items-clause-long : goal.returns-in-Items-clause-long
returns-in-Items-clause-long c = c.first_length.ensures ∙ first_long c.args.made.now
