use Rattle.std.proofs.Common.{◌∙◌, find, length, IsSome, is_some, refl, sym, ap, subst}
use Rattle.std.specs.Option.{option_map}
use Rattle.std.proofs.lemmas.List.{length-map}
use Rattle.std.proofs.lemmas.Option.{same_Some}
use Rattle.nl_grid.specs.Geometry.{IsPointOf}
use Rattle.nl_agents.specs.Changes.{is_turtle}
use Rattle.nl_agents.specs.declared.agents.Turtle as living
use Rattle.nl_store_records.specs.Records.{record_at, fields_at}
use Rattle.nl_index.specs.Index.{breeds_in}
use Rattle.nl_store_lists.specs.Rolls.{roll}
use Rattle.nl_store_lists.proofs.Collecting.{altered}
use Rattle.nl_store_files.specs.Agents.{turtle_at, turtle_serial, turtles_moved, Agents}
use Rattle.nl_store_files.specs.Keys.{key_in}
use Rattle.nl_store_files.proofs.Filed.{made, turtle-key}
use Rattle.nl_store_files.proofs.Looked.{breed-fits, turtle-breed}
use Rattle.nl_store_files.proofs.Altering.{key-held, key-listed, key-turtle, moved-files, moved-links, moved-roll, moved-roll-by, there, there-is}
use Rattle.nl_store_files.proofs.registry.Registry.move_turtle.Goals as goal

pub key_of-key-requires : goal.key_of-key-requires
key_of-key-requires c =
    let f = c.self.inside in
    let lives = subst (λ (a : Agents). IsSome (find (is_turtle c.args.turtle) a.turtles)) (sym c.self.view_is) c.requires.lives in
    turtle-key f.chains f.ends (record_at f.records) f.turtle_keys f.link_keys f.turtles_given f.links_given c.self.invariant.0 c.self.invariant.1 c.args.turtle lives

pub fields_of-requires : goal.fields_of-requires
fields_of-requires c =
    let f = c.self.inside in
    key-held f.chains f.ends (record_at f.records) (key_in f.turtle_keys) (key_in f.link_keys) f.turtles_given f.links_given c.self.invariant.0 c.args.turtle c.key_of-key.result c.key_of-key.ensures

pub refile-requires-clause-held : goal.refile-requires-clause-held
refile-requires-clause-held c =
    let f = c.self.inside in
    key-held f.chains f.ends (record_at f.records) (key_in f.turtle_keys) (key_in f.link_keys) f.turtles_given f.links_given c.self.invariant.0 c.args.turtle c.key_of-key.result c.key_of-key.ensures

pub refile-requires-clause-listed : goal.refile-requires-clause-listed
refile-requires-clause-listed c =
    let f = c.self.inside in
    key-listed f.chains f.ends (record_at f.records) (key_in f.turtle_keys) (key_in f.link_keys) f.turtles_given f.links_given c.self.invariant.0 c.args.turtle c.key_of-key.result c.key_of-key.ensures

pub refile-requires-clause-turtle : goal.refile-requires-clause-turtle
refile-requires-clause-turtle c =
    let f = c.self.inside in
    key-turtle f.chains f.ends (record_at f.records) (key_in f.turtle_keys) (key_in f.link_keys) f.turtles_given f.links_given c.self.invariant.0 c.args.turtle c.key_of-key.result c.key_of-key.ensures

pub refile-requires-clause-point : goal.refile-requires-clause-point
refile-requires-clause-point c =
    let f = c.self.inside in
    subst (λ (a : Agents). IsPointOf a.shape c.args.to) (sym c.self.view_is) c.requires.at

pub refile-requires-clause-breed : goal.refile-requires-clause-breed
refile-requires-clause-breed c =
    let f = c.self.inside in
    breed-fits f.chains (fields_at (record_at f.records) c.key_of-key.result) c.fields_of.result.now c.fields_of.ensures (ap is_some (there-is f.chains f.ends (record_at f.records) (key_in f.turtle_keys) (key_in f.link_keys) f.turtles_given f.links_given c.self.invariant.0 c.args.turtle c.key_of-key.result c.key_of-key.ensures)) (c.self.invariant.0.index.fit c.key_of-key.result (key-held f.chains f.ends (record_at f.records) (key_in f.turtle_keys) (key_in f.link_keys) f.turtles_given f.links_given c.self.invariant.0 c.args.turtle c.key_of-key.result c.key_of-key.ensures))

pub invariant_of-self : goal.invariant_of-self
invariant_of-self c =
    let f = c.self.inside in (
      moved-files f.chains f.ends (record_at f.records) (key_in f.turtle_keys) (key_in f.link_keys) f.turtles_given f.links_given c.self.invariant.0 c.args.turtle c.key_of-key.result c.key_of-key.ensures c.refile.new.self (record_at c.refile.new.records) c.args.to c.fields_of.result.now.breed c.refile.ensures.refiled c.refile.ensures.others,
      record {
        turtles = c.self.invariant.1.turtles ∙ sym (ap length (moved-roll f.chains f.ends (record_at f.records) (key_in f.turtle_keys) (key_in f.link_keys) f.turtles_given f.links_given c.self.invariant.0 c.args.turtle c.key_of-key.result c.key_of-key.ensures c.refile.new.self (record_at c.refile.new.records) c.args.to c.fields_of.result.now.breed c.refile.ensures.refiled c.refile.ensures.others) ∙ length-map (roll (turtle_at (record_at f.records)) (key_in f.turtle_keys) f.turtles_given) (altered turtle_serial (λ t. record t { at = c.args.to; breed = c.fields_of.result.now.breed }) c.args.turtle));
        links = c.self.invariant.1.links ∙ sym (ap length (moved-links f.chains f.ends (record_at f.records) (key_in f.turtle_keys) (key_in f.link_keys) f.turtles_given f.links_given c.self.invariant.0 c.args.turtle c.key_of-key.result c.key_of-key.ensures c.refile.new.self (record_at c.refile.new.records) c.args.to c.fields_of.result.now.breed c.refile.ensures.refiled c.refile.ensures.others));
      },
    )

pub returns : goal.returns
returns c =
    let f = c.self.inside in
    let mine = there f.chains f.ends (record_at f.records) (key_in f.turtle_keys) (key_in f.link_keys) f.turtles_given f.links_given c.self.invariant.0 c.args.turtle c.key_of-key.result c.key_of-key.ensures in
    let same = ap (λ b. record mine { at = c.args.to; breed = b }) (same_Some mine.breed c.fields_of.result.now.breed (sym (ap (option_map (λ (x : living.Turtle). x.breed)) (there-is f.chains f.ends (record_at f.records) (key_in f.turtle_keys) (key_in f.link_keys) f.turtles_given f.links_given c.self.invariant.0 c.args.turtle c.key_of-key.result c.key_of-key.ensures)) ∙ turtle-breed (fields_at (record_at f.records) c.key_of-key.result) c.fields_of.result.now c.fields_of.ensures (ap is_some (there-is f.chains f.ends (record_at f.records) (key_in f.turtle_keys) (key_in f.link_keys) f.turtles_given f.links_given c.self.invariant.0 c.args.turtle c.key_of-key.result c.key_of-key.ensures)))) in
    made f.chains.shape c.refile.new.self.shape (breeds_in f.chains) (breeds_in c.refile.new.self) _ _ _ _ f.turtles_given f.links_given c.refile.ensures.size.shape_is c.refile.ensures.size.breeds_are
    (moved-roll-by f.chains f.ends (record_at f.records) (key_in f.turtle_keys) (key_in f.link_keys) f.turtles_given f.links_given c.self.invariant.0 c.args.turtle c.key_of-key.result c.key_of-key.ensures c.refile.new.self (record_at c.refile.new.records) c.args.to c.fields_of.result.now.breed c.refile.ensures.refiled c.refile.ensures.others (λ t. record t { at = c.args.to }) same refl) (moved-links f.chains f.ends (record_at f.records) (key_in f.turtle_keys) (key_in f.link_keys) f.turtles_given f.links_given c.self.invariant.0 c.args.turtle c.key_of-key.result c.key_of-key.ensures c.refile.new.self (record_at c.refile.new.records) c.args.to c.fields_of.result.now.breed c.refile.ensures.refiled c.refile.ensures.others)
    ∙ ap (λ (a : Agents). record a { turtles = turtles_moved c.args.turtle c.args.to a.turtles }) c.self.view_is
