use Rattle.std.proofs.Common.{◌∙◌}
use Rattle.nl_index.proofs.row.unlink_from.Goals as goal

pub returns-in-Some-clause-filed : goal.returns-in-Some-clause-filed
returns-in-Some-clause-filed c home lists d here = rw c.in-Some.is (c.unlink.ensures.filed home lists d (here ∙ c.in-Some.is))
