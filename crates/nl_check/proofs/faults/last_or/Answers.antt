use Rattle.std.proofs.Common.{sym, ap, ◌∙◌}
use Rattle.nl_check.specs.inner.Faults.{last_or, front}
use Rattle.nl_check.proofs.Around.{last_push, front_push}
use Rattle.nl_check.proofs.faults.last_or.Goals as goal

pub returns-in-Some-clause-is : goal.returns-in-Some-clause-is
returns-in-Some-clause-is c = sym (ap (last_or c.args.left) c.in-Some.ensures.items ∙ last_push c.args.left c.pop.new.self.items c.in-Some.outer)

pub returns-in-Some-clause-front : goal.returns-in-Some-clause-front
returns-in-Some-clause-front c = sym (ap front c.in-Some.ensures.items ∙ front_push c.pop.new.self.items c.in-Some.outer)
