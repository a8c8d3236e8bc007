use Rattle.std.proofs.Common.{rules}
use Rattle.nl_fixed.proofs.WholeNumbers.{whole_by_test}
use Rattle.nl_fixed.proofs.number.Num.is_whole.Goals as goal

pub returns-clause-value : goal.returns-clause-value
returns-clause-value c = search rules

pub returns-clause-whole : goal.returns-clause-whole
returns-clause-whole c = whole_by_test c.args.self _ (returns-clause-value c)
