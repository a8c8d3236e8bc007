use Rattle.nl_store.specs.Held.{world_in}
use Rattle.nl_store.proofs.Holds.{holds-back}
use Rattle.nl_store.proofs.indexed.IndexedStore.var.Goals as goal

pub returns-clause-holds : goal.returns-clause-holds
returns-clause-holds c = holds-back (world_in c.args.self.now) c.args.owner c.args.slot c.value.result c.args.self.now.stands c.value.ensures
