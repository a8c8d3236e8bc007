use Rattle.std.specs.Prelude.{true, false, not, filter}
use Rattle.nl_agents.specs.Changes.{is_link}
use Rattle.nl_agents.specs.declared.agents.Link.{Link}
use Rattle.nl_store.proofs.Rosters.{link-counted, link-left, only-links-left}
use Rattle.nl_store.proofs.roster.Roster.cut.Goals as goal

pub link_less-requires-clause-directed : goal.link_less-requires-clause-directed
link_less-requires-clause-directed c = link-counted c.self.inside.files c.self.inside.census c.self.inside.shape c.self.inside.breeds c.self.invariant c.remove_link.new.self c.args.link c.link_breed-breed.result.0 c.link_breed-breed.result.1 c.link_breed-breed.ensures.breed c.link_breed-breed.ensures.directed c.remove_link.ensures.counts true

pub link_less-requires-clause-undirected : goal.link_less-requires-clause-undirected
link_less-requires-clause-undirected c = link-counted c.self.inside.files c.self.inside.census c.self.inside.shape c.self.inside.breeds c.self.invariant c.remove_link.new.self c.args.link c.link_breed-breed.result.0 c.link_breed-breed.result.1 c.link_breed-breed.ensures.breed c.link_breed-breed.ensures.directed c.remove_link.ensures.counts false

pub invariant_of-self : goal.invariant_of-self
invariant_of-self c = link-left c.self.inside.files c.self.inside.census c.self.inside.shape c.self.inside.breeds c.self.invariant c.remove_link.new.self c.args.link c.link_breed-breed.result.0 c.link_breed-breed.result.1 c.link_breed-breed.ensures.breed c.link_breed-breed.ensures.directed c.remove_link.ensures.counts c.link_less.new.self (only-links-left c.self.inside.files c.remove_link.new.self (filter (λ (l : Link). not (is_link c.args.link l)) c.self.inside.files.links) c.remove_link.ensures.left) c.link_less.ensures
