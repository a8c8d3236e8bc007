use Rattle.std.proofs.Common.{◌≡◌, sym, subst, ◌∙◌}
use Rattle.nl_value.specs.declared.sets.AgentKind.TheVariants as the_kind
use Rattle.nl_exec_acts.specs.Acts.{is_agent_in}
use Rattle.nl_exec_acts.proofs.Membership.{all_links_listed, bred_links_listed}
use Rattle.nl_exec_acts.proofs.values.has_link.Goals as goal

pub returns-in-Links : goal.returns-in-Links
returns-in-Links g c =
    let r = (g.S.Store.world c.args.store.now).rest in
    subst (λ s. c.link_lives.result ≡ is_agent_in r the_kind.Link c.args.link s) (sym c.in-Links.is)
    (c.link_lives.ensures ∙ sym (all_links_listed r c.args.link))

pub returns-in-LinkBreed : goal.returns-in-LinkBreed
returns-in-LinkBreed g c =
    let w = g.S.Store.world c.args.store.now in
    subst (λ s. c.is_link_of.result ≡ is_agent_in w.rest the_kind.Link c.args.link s) (sym c.in-LinkBreed.is)
    (c.is_link_of.ensures ∙ sym (bred_links_listed w c.in-LinkBreed.breed c.args.link c.shape-stands.ensures.stands))
