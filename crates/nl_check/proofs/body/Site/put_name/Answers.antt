use Rattle.std.proofs.Common.{arith}
use Rattle.std.proofs.lemmas.Grind.{common_steps}
use Rattle.nl_check.proofs.body.Site.put_name.Goals as goal

pub returns : goal.returns
returns c = grind (arith, common_steps, c.use_of.ensures c.args.node.now.name.now)
