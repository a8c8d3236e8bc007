use Rattle.std.proofs.Common.{◌∙◌, ◌≤◌, sym, ap, subst}
use Rattle.nl_store_records.specs.Records.{record_at}
use Rattle.nl_store_files.specs.Agents.{Agents}
use Rattle.nl_store_files.proofs.Chosen.{links-agents, links-counted, links-skipped}
use Rattle.nl_store_files.proofs.registry.Registry.skip_links.Goals as goal

pub invariant_of-self : goal.invariant_of-self
invariant_of-self c =
    let f = c.self.inside in (
      links-skipped f.chains f.ends (record_at f.records) f.turtle_keys f.link_keys f.turtles_given f.links_given c.self.invariant.0 c.self.invariant.1 c.args.to (subst (λ (a : Agents). a.links_given ≤ c.args.to) (sym c.self.view_is) c.requires),
      links-counted f.chains f.ends (record_at f.records) f.turtle_keys f.link_keys f.turtles_given f.links_given c.self.invariant.0 c.self.invariant.1 c.args.to (subst (λ (a : Agents). a.links_given ≤ c.args.to) (sym c.self.view_is) c.requires),
    )

pub returns : goal.returns
returns c =
    let f = c.self.inside in
    links-agents f.chains f.ends (record_at f.records) f.turtle_keys f.link_keys f.turtles_given f.links_given c.self.invariant.0 c.self.invariant.1 c.args.to (subst (λ (a : Agents). a.links_given ≤ c.args.to) (sym c.self.view_is) c.requires) ∙ ap (λ (a : Agents). record a { links_given = c.args.to }) c.self.view_is
