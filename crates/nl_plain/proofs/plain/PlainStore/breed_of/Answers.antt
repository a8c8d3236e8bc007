use Rattle.nl_plain.specs.Held.{world_in}
use Rattle.nl_plain.proofs.Holds.{turtle_stands}
use Rattle.nl_plain.proofs.plain.PlainStore.breed_of.Goals as goal

pub returns-clause-breed : goal.returns-clause-breed
returns-clause-breed c = (turtle_stands (world_in c.args.self.now) c.deref.result.now c.args.turtle c.turtle_in.result.now c.args.self.now.stands c.deref.ensures.value c.turtle_in.ensures).breed
