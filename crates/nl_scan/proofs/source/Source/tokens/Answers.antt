use Rattle.nl_scan.proofs.Order.{tokens_of-in_order}
use Rattle.nl_scan.proofs.source.Source.tokens.Goals as goal

pub returns-clause-order : goal.returns-clause-order
returns-clause-order c = tokens_of-in_order c.args.self.now.text.now c.args.self.now.tokens.now c.args.self.now.scanned
