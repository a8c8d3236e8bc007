use Rattle.std.proofs.Common.{◌∙◌, find, IsSome, is_some, sym, ap, subst}
use Rattle.std.specs.Option.{option_map}
use Rattle.nl_agents.specs.Changes.{is_link}
use Rattle.nl_agents.specs.declared.agents.Link as tie
use Rattle.nl_store_records.specs.Records.{record_at, fields_at}
use Rattle.nl_store_files.specs.Agents.{Agents}
use Rattle.nl_store_files.proofs.Filed.{link-key, link-there}
use Rattle.nl_store_files.proofs.Looked.{link-record, link-vars}
use Rattle.nl_store_files.proofs.registry.Registry.link_vars.Goals as goal

pub key_of-key-requires : goal.key_of-key-requires
key_of-key-requires c =
    let f = c.self.inside in
    let lives = subst (λ (a : Agents). IsSome (find (is_link c.args.link) a.links)) (sym c.self.view_is) c.requires in
    link-key f.chains f.ends (record_at f.records) f.turtle_keys f.link_keys f.turtles_given f.links_given c.self.invariant.0 c.self.invariant.1 c.args.link lives

pub fields_of-requires : goal.fields_of-requires
fields_of-requires c =
    let f = c.self.inside in
    let lives = subst (λ (a : Agents). IsSome (find (is_link c.args.link) a.links)) (sym c.self.view_is) c.requires in
    link-record (record_at f.records c.key_of-key.result) (sym (ap is_some (link-there f.chains f.ends (record_at f.records) f.turtle_keys f.link_keys f.turtles_given f.links_given c.self.invariant.0 c.self.invariant.1 c.args.link c.key_of-key.result c.key_of-key.ensures)) ∙ lives)

pub returns : goal.returns
returns c =
    let f = c.self.inside in
    let lives = subst (λ (a : Agents). IsSome (find (is_link c.args.link) a.links)) (sym c.self.view_is) c.requires in
    ap (λ (a : Agents). option_map (λ (x : tie.Link). x.vars) (find (is_link c.args.link) a.links)) (sym c.self.view_is) ∙ ap (option_map (λ (x : tie.Link). x.vars)) (link-there f.chains f.ends (record_at f.records) f.turtle_keys f.link_keys f.turtles_given f.links_given c.self.invariant.0 c.self.invariant.1 c.args.link c.key_of-key.result c.key_of-key.ensures) ∙ link-vars (fields_at (record_at f.records) c.key_of-key.result) c.fields_of.result.now c.fields_of.ensures (sym (ap is_some (link-there f.chains f.ends (record_at f.records) f.turtle_keys f.link_keys f.turtles_given f.links_given c.self.invariant.0 c.self.invariant.1 c.args.link c.key_of-key.result c.key_of-key.ensures)) ∙ lives)
