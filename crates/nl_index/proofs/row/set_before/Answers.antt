use Rattle.nl_index.proofs.Borders.{last-redirects, last-stays}
use Rattle.nl_index.proofs.row.set_before.Goals as goal

pub returns-in-None-clause-before : goal.returns-in-None-clause-before
returns-in-None-clause-before c = rw c.in-None.is (last-redirects c.args.chain c.args.number c.args.to _ _ _ c.set_last.ensures.last)

pub returns-in-None-clause-after : goal.returns-in-None-clause-after
returns-in-None-clause-after c = last-stays c.args.chain c.args.number c.args.to _ _ _ c.set_last.ensures.last
