use Rattle.std.proofs.Common.{◌∙◌, find, IsSome, is_some, sym, ap, subst}
use Rattle.std.specs.Option.{option_map}
use Rattle.nl_agents.specs.Changes.{is_turtle}
use Rattle.nl_agents.specs.declared.agents.Turtle as living
use Rattle.nl_store_records.specs.Records.{record_at, fields_at}
use Rattle.nl_store_files.specs.Agents.{Agents}
use Rattle.nl_store_files.proofs.Filed.{turtle-key, turtle-there}
use Rattle.nl_store_files.proofs.Looked.{turtle-record, turtle-breed}
use Rattle.nl_store_files.proofs.registry.Registry.breed_of.Goals as goal

pub key_of-key-requires : goal.key_of-key-requires
key_of-key-requires c =
    let f = c.self.inside in
    let lives = subst (λ (a : Agents). IsSome (find (is_turtle c.args.turtle) a.turtles)) (sym c.self.view_is) c.requires in
    turtle-key f.chains f.ends (record_at f.records) f.turtle_keys f.link_keys f.turtles_given f.links_given c.self.invariant.0 c.self.invariant.1 c.args.turtle lives

pub fields_of-requires : goal.fields_of-requires
fields_of-requires c =
    let f = c.self.inside in
    let lives = subst (λ (a : Agents). IsSome (find (is_turtle c.args.turtle) a.turtles)) (sym c.self.view_is) c.requires in
    turtle-record (record_at f.records c.key_of-key.result) (sym (ap is_some (turtle-there f.chains f.ends (record_at f.records) f.turtle_keys f.link_keys f.turtles_given f.links_given c.self.invariant.0 c.self.invariant.1 c.args.turtle c.key_of-key.result c.key_of-key.ensures)) ∙ lives)

pub returns : goal.returns
returns c =
    let f = c.self.inside in
    let lives = subst (λ (a : Agents). IsSome (find (is_turtle c.args.turtle) a.turtles)) (sym c.self.view_is) c.requires in
    ap (λ (a : Agents). option_map (λ (x : living.Turtle). x.breed) (find (is_turtle c.args.turtle) a.turtles)) (sym c.self.view_is) ∙ ap (option_map (λ (x : living.Turtle). x.breed)) (turtle-there f.chains f.ends (record_at f.records) f.turtle_keys f.link_keys f.turtles_given f.links_given c.self.invariant.0 c.self.invariant.1 c.args.turtle c.key_of-key.result c.key_of-key.ensures) ∙ turtle-breed (fields_at (record_at f.records) c.key_of-key.result) c.fields_of.result.now c.fields_of.ensures (sym (ap is_some (turtle-there f.chains f.ends (record_at f.records) f.turtle_keys f.link_keys f.turtles_given f.links_given c.self.invariant.0 c.self.invariant.1 c.args.turtle c.key_of-key.result c.key_of-key.ensures)) ∙ lives)
