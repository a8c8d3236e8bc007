use Rattle.nl_store.proofs.Copies.{link-again, link-keeps}
use Rattle.nl_store.proofs.copying.copy_link.Goals as goal

pub returns : goal.returns
returns c =
    link-again c.args.from.now.links c.args.serial c.link_breed-breed.result.0 c.link_breed-breed.result.1 c.ends-end1.result.0 c.ends-end1.result.1 c.in_ok-vars.vars c.link_breed-breed.ensures.breed c.link_breed-breed.ensures.directed c.ends-end1.ensures.first c.ends-end1.ensures.second (link-keeps c.args.from.now.links c.args.serial c.link_vars.result.now c.in_ok-vars.vars c.link_vars.ensures c.in_ok-vars.ensures) c.args.into.now c.skip_links.new.self c.add_link.new.self c.skip_links.ensures c.in_ok-add_link.ensures.added
