use Rattle.nl_links.proofs.Holding.{holds-set, left}
use Rattle.nl_links.proofs.ends.Ends.leave.Goals as goal

pub returns-clause-held : goal.returns-clause-held
returns-clause-held c = holds-set c.args.self.now c.let_go.new.self c.args.turtle _ c.let_go.ensures

pub returns-clause-ended : goal.returns-clause-ended
returns-clause-ended c = left c.args.self.now c.let_go.new.self c.args.turtle c.let_go.ensures
