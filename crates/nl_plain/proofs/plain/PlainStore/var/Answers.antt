use Rattle.nl_plain.specs.Held.{world_in}
use Rattle.nl_plain.proofs.Holds.{holds_back}
use Rattle.nl_plain.proofs.plain.PlainStore.var.Goals as goal

pub returns-clause-holds : goal.returns-clause-holds
returns-clause-holds c = holds_back (world_in c.args.self.now) c.args.owner c.args.slot c.value.result c.args.self.now.stands c.value.ensures
