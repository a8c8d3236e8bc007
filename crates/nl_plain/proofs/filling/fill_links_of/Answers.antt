use Rattle.nl_agents.specs.Changes.{has_end}
use Rattle.nl_agents.specs.declared.agents.Link.{Link}
use Rattle.nl_plain.proofs.Filled.{above_kept}
use Rattle.nl_plain.proofs.filling.fill_links_of.Goals as goal

pub push-requires : goal.push-requires
push-requires c = above_kept (λ (a : Link). a.serial) (has_end c.args.turtle) c.args.links.now c.loop-link.link-index c.link-item.result c.loop-link.into c.link-item.is c.loop-link-test.true c.requires c.loop-link.invariant
