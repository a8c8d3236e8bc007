use Rattle.std.proofs.Common.{arith}
use Rattle.nl_listops_series.proofs.Rows.{range_few, range_many}
use Rattle.nl_listops_series.proofs.ranges.range_by.Goals as goal

pub returns : goal.returns
returns c = let few = range_few c.args.start c.args.bound c.args.step in grind (arith, few)

pub returns-then-from-length : goal.returns-then-from-length
returns-then-from-length c = let many = range_many c.args.start c.args.bound c.args.step in grind (arith, many)
