use Rattle.nl_plain.specs.Held.{world_in}
use Rattle.nl_plain.proofs.Holds.{link_stands}
use Rattle.nl_plain.proofs.plain.PlainStore.ends.Goals as goal

pub returns-clause-first_lives : goal.returns-clause-first_lives
returns-clause-first_lives c = (link_stands (world_in c.args.self.now) c.as_slice.result.now c.args.link c.link_in-link.result.now c.args.self.now.stands c.as_slice.ensures c.link_in-link.ensures).first

pub returns-clause-second_lives : goal.returns-clause-second_lives
returns-clause-second_lives c = (link_stands (world_in c.args.self.now) c.as_slice.result.now c.args.link c.link_in-link.result.now c.args.self.now.stands c.as_slice.ensures c.link_in-link.ensures).second
