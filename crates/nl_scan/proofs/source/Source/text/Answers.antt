use Rattle.nl_scan.proofs.Order.{tokens_of-is_text}
use Rattle.nl_scan.proofs.source.Source.text.Goals as goal

pub returns-clause-short : goal.returns-clause-short
returns-clause-short c = (tokens_of-is_text c.args.self.now.text.now c.args.self.now.tokens.now c.args.self.now.scanned).0
