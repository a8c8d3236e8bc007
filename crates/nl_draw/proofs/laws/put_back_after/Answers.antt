-- The work leaves the stream where its call did.
use Rattle.std.proofs.Common.{rules}
use Rattle.nl_draw.proofs.laws.put_back_after.Goals as goal

pub returns-clause-worked : goal.returns-clause-worked
returns-clause-worked g c = (c.work-answer.new.arg2, search rules)
