use Rattle.nl_scan.proofs.Writing.{quoted_is_first, quoted_is_one_token}
use Rattle.nl_scan.proofs.laws.written_texts_are_one_token.Goals as goal

pub returns-clause-first : goal.returns-clause-first
returns-clause-first c = quoted_is_first

pub returns-clause-alone : goal.returns-clause-alone
returns-clause-alone c = quoted_is_one_token
