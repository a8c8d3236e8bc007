use Rattle.std.proofs.Common.{◌≡◌, ◌∙◌, find, length, IsSome, refl, sym, ap, subst}
use Rattle.std.proofs.lemmas.List.{length-map}
use Rattle.nl_agents.specs.Changes.{bred_vars, is_turtle}
use Rattle.nl_agents.specs.declared.agents.Turtle as living
use Rattle.nl_agents.proofs.Finding.{found_all}
use Rattle.nl_store_records.specs.Records.{record_at, fields_at}
use Rattle.nl_index.specs.Index.{breeds_in}
use Rattle.nl_store_lists.specs.Rolls.{roll}
use Rattle.nl_store_lists.proofs.Collecting.{altered}
use Rattle.nl_store_files.specs.Agents.{turtle_at, turtle_serial, turtles_filled, Agents}
use Rattle.nl_store_files.specs.Keys.{key_in}
use Rattle.nl_store_files.proofs.Filed.{made, turtle-key, turtle-there}
use Rattle.nl_store_files.proofs.Looked.{has-many}
use Rattle.nl_store_files.proofs.Altering.{key-held, set-turtle-files, set-turtle-links, set-turtle-roll, there, there-is}
use Rattle.nl_store_files.proofs.registry.Registry.refill_turtle.Goals as goal

pub key_of-key-requires : goal.key_of-key-requires
key_of-key-requires c =
    let f = c.self.inside in
    let lives = subst (λ (a : Agents). IsSome (find (is_turtle c.args.turtle) a.turtles)) (sym c.self.view_is) c.requires.lives in
    turtle-key f.chains f.ends (record_at f.records) f.turtle_keys f.link_keys f.turtles_given f.links_given c.self.invariant.0 c.self.invariant.1 c.args.turtle lives

pub rebreed_variables-requires-clause-held : goal.rebreed_variables-requires-clause-held
rebreed_variables-requires-clause-held c =
    let f = c.self.inside in
    key-held f.chains f.ends (record_at f.records) (key_in f.turtle_keys) (key_in f.link_keys) f.turtles_given f.links_given c.self.invariant.0 c.args.turtle c.key_of-key.result c.key_of-key.ensures

pub rebreed_variables-requires-clause-many : goal.rebreed_variables-requires-clause-many
rebreed_variables-requires-clause-many c =
    let f = c.self.inside in
    let mine = there f.chains f.ends (record_at f.records) (key_in f.turtle_keys) (key_in f.link_keys) f.turtles_given f.links_given c.self.invariant.0 c.args.turtle c.key_of-key.result c.key_of-key.ensures in
    let found = ap (λ (a : Agents). find (is_turtle c.args.turtle) a.turtles) (sym c.self.view_is) ∙ turtle-there f.chains f.ends (record_at f.records) f.turtle_keys f.link_keys f.turtles_given f.links_given c.self.invariant.0 c.self.invariant.1 c.args.turtle c.key_of-key.result c.key_of-key.ensures ∙ there-is f.chains f.ends (record_at f.records) (key_in f.turtle_keys) (key_in f.link_keys) f.turtles_given f.links_given c.self.invariant.0 c.args.turtle c.key_of-key.result c.key_of-key.ensures in
    has-many c.args.layout.now (fields_at (record_at f.records) c.key_of-key.result) mine (there-is f.chains f.ends (record_at f.records) (key_in f.turtle_keys) (key_in f.link_keys) f.turtles_given f.links_given c.self.invariant.0 c.args.turtle c.key_of-key.result c.key_of-key.ensures)
    (found_all (is_turtle c.args.turtle) (λ (t : living.Turtle). length t.vars ≡ length c.args.layout.now.some_turtle) c.args.self.now.turtles mine c.requires.many found)

pub invariant_of-self : goal.invariant_of-self
invariant_of-self c =
    let f = c.self.inside in (
      set-turtle-files f.chains f.ends (record_at f.records) (key_in f.turtle_keys) (key_in f.link_keys) f.turtles_given f.links_given c.self.invariant.0 (record_at c.rebreed_variables.new.records) c.key_of-key.result (bred_vars c.args.layout.now c.args.breed) c.rebreed_variables.ensures c.args.turtle c.key_of-key.ensures,
      record { turtles = c.self.invariant.1.turtles ∙ sym (ap length (set-turtle-roll f.chains f.ends (record_at f.records) (key_in f.turtle_keys) (key_in f.link_keys) f.turtles_given f.links_given c.self.invariant.0 (record_at c.rebreed_variables.new.records) c.key_of-key.result (bred_vars c.args.layout.now c.args.breed) c.rebreed_variables.ensures c.args.turtle c.key_of-key.ensures) ∙ length-map (roll (turtle_at (record_at f.records)) (key_in f.turtle_keys) f.turtles_given) (altered turtle_serial (λ (x : living.Turtle). record x { vars = (bred_vars c.args.layout.now c.args.breed) x.vars }) c.args.turtle)); links = c.self.invariant.1.links ∙ sym (ap length (set-turtle-links f.chains f.ends (record_at f.records) (key_in f.turtle_keys) (key_in f.link_keys) f.turtles_given f.links_given c.self.invariant.0 (record_at c.rebreed_variables.new.records) c.key_of-key.result (bred_vars c.args.layout.now c.args.breed) c.rebreed_variables.ensures c.args.turtle c.key_of-key.ensures)) },
    )

pub returns : goal.returns
returns c =
    let f = c.self.inside in
    made f.chains.shape f.chains.shape (breeds_in f.chains) (breeds_in f.chains) _ _ _ _ f.turtles_given f.links_given refl refl (set-turtle-roll f.chains f.ends (record_at f.records) (key_in f.turtle_keys) (key_in f.link_keys) f.turtles_given f.links_given c.self.invariant.0 (record_at c.rebreed_variables.new.records) c.key_of-key.result (bred_vars c.args.layout.now c.args.breed) c.rebreed_variables.ensures c.args.turtle c.key_of-key.ensures) (set-turtle-links f.chains f.ends (record_at f.records) (key_in f.turtle_keys) (key_in f.link_keys) f.turtles_given f.links_given c.self.invariant.0 (record_at c.rebreed_variables.new.records) c.key_of-key.result (bred_vars c.args.layout.now c.args.breed) c.rebreed_variables.ensures c.args.turtle c.key_of-key.ensures)
    ∙ ap (λ (a : Agents). record a { turtles = turtles_filled (bred_vars c.args.layout.now c.args.breed) c.args.turtle a.turtles }) c.self.view_is
