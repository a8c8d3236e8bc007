use Rattle.nl_plain.specs.Held.{world_in}
use Rattle.nl_plain.proofs.Holds.{link_stands}
use Rattle.nl_plain.proofs.plain.PlainStore.link_breed.Goals as goal

pub returns-clause-breed : goal.returns-clause-breed
returns-clause-breed c = (link_stands (world_in c.args.self.now) c.as_slice.result.now c.args.link c.link_in-link.result.now c.args.self.now.stands c.as_slice.ensures c.link_in-link.ensures).breed
