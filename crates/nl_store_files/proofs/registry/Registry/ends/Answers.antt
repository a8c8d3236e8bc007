use Rattle.std.proofs.Common.{◌∙◌, find, IsSome, is_some, sym, ap, subst}
use Rattle.std.specs.Option.{option_map}
use Rattle.nl_agents.specs.Changes.{is_link}
use Rattle.nl_agents.specs.declared.agents.Link as tie
use Rattle.nl_store_records.specs.Records.{record_at}
use Rattle.nl_store_files.specs.Agents.{Agents}
use Rattle.nl_store_files.proofs.Filed.{link-key, link-there}
use Rattle.nl_store_files.proofs.registry.Registry.ends.Goals as goal

pub key_of-key-requires : goal.key_of-key-requires
key_of-key-requires c =
    let f = c.self.inside in
    let lives = subst (λ (a : Agents). IsSome (find (is_link c.args.link) a.links)) (sym c.self.view_is) c.requires in
    link-key f.chains f.ends (record_at f.records) f.turtle_keys f.link_keys f.turtles_given f.links_given c.self.invariant.0 c.self.invariant.1 c.args.link lives

pub link_parts-parts-requires : goal.link_parts-parts-requires
link_parts-parts-requires c =
    let f = c.self.inside in
    let lives = subst (λ (a : Agents). IsSome (find (is_link c.args.link) a.links)) (sym c.self.view_is) c.requires in
    (sym (ap is_some (link-there f.chains f.ends (record_at f.records) f.turtle_keys f.link_keys f.turtles_given f.links_given c.self.invariant.0 c.self.invariant.1 c.args.link c.key_of-key.result c.key_of-key.ensures)) ∙ lives)

pub returns-clause-first : goal.returns-clause-first
returns-clause-first c =
    let f = c.self.inside in
    let lives = subst (λ (a : Agents). IsSome (find (is_link c.args.link) a.links)) (sym c.self.view_is) c.requires in
    ap (λ (a : Agents). option_map (λ (x : tie.Link). x.end1) (find (is_link c.args.link) a.links)) (sym c.self.view_is) ∙ ap (option_map (λ (x : tie.Link). x.end1)) (link-there f.chains f.ends (record_at f.records) f.turtle_keys f.link_keys f.turtles_given f.links_given c.self.invariant.0 c.self.invariant.1 c.args.link c.key_of-key.result c.key_of-key.ensures) ∙ c.link_parts-parts.ensures.first

pub returns-clause-second : goal.returns-clause-second
returns-clause-second c =
    let f = c.self.inside in
    let lives = subst (λ (a : Agents). IsSome (find (is_link c.args.link) a.links)) (sym c.self.view_is) c.requires in
    ap (λ (a : Agents). option_map (λ (x : tie.Link). x.end2) (find (is_link c.args.link) a.links)) (sym c.self.view_is) ∙ ap (option_map (λ (x : tie.Link). x.end2)) (link-there f.chains f.ends (record_at f.records) f.turtle_keys f.link_keys f.turtles_given f.links_given c.self.invariant.0 c.self.invariant.1 c.args.link c.key_of-key.result c.key_of-key.ensures) ∙ c.link_parts-parts.ensures.second
