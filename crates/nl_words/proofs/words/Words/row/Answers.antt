use Rattle.nl_words.proofs.Finding.{placed}
use Rattle.nl_words.proofs.words.Words.row.Goals as goal

pub returns-clause-code : goal.returns-clause-code
returns-clause-code g c = placed c.self.inside.rows.now c.args.code c.get.result c.self.invariant.1 c.get.ensures.lookup
