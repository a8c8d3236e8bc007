use Rattle.nl_index.proofs.Borders.{first-redirects, first-stays}
use Rattle.nl_index.proofs.row.set_after.Goals as goal

pub returns-in-None-clause-after : goal.returns-in-None-clause-after
returns-in-None-clause-after c = rw c.in-None.is (first-redirects c.args.chain c.args.number c.args.to _ _ _ c.set_first.ensures.first)

pub returns-in-None-clause-before : goal.returns-in-None-clause-before
returns-in-None-clause-before c = first-stays c.args.chain c.args.number c.args.to _ _ _ c.set_first.ensures.first
