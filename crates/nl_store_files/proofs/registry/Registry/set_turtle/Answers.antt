use Rattle.std.proofs.Common.{◌∙◌, find, length, IsSome, is_some, refl, sym, ap, subst}
use Rattle.std.specs.Option.{option_map}
use Rattle.std.proofs.lemmas.List.{length-map}
use Rattle.std.proofs.lemmas.Result.{IfOk-weaker, on_err_weaker}
use Rattle.nl_value.specs.Views.{plain}
use Rattle.nl_agents.specs.Nouns.{Vars}
use Rattle.nl_agents.specs.Changes.{is_turtle, value_set}
use Rattle.nl_agents.specs.declared.agents.Turtle as living
use Rattle.nl_store_records.specs.Records.{record_at, fields_at}
use Rattle.nl_index.specs.Index.{breeds_in}
use Rattle.nl_store_lists.specs.Rolls.{roll}
use Rattle.nl_store_lists.proofs.Collecting.{altered}
use Rattle.nl_store_files.specs.Agents.{entry_of, turtle_at, turtle_entry, turtle_serial, turtles_filled, Agents}
use Rattle.nl_store_files.specs.Keys.{key_in}
use Rattle.nl_store_files.proofs.Filed.{made, turtle-key, turtle-there}
use Rattle.nl_store_files.proofs.Looked.{turtle-entries, turtle-record}
use Rattle.nl_store_files.proofs.Altering.{set-turtle-files, set-turtle-links, set-turtle-roll}
use Rattle.nl_store_files.proofs.registry.Registry.set_turtle.Goals as goal

pub key_of-key-requires : goal.key_of-key-requires
key_of-key-requires c =
    let f = c.self.inside in
    let lives = subst (λ (a : Agents). IsSome (find (is_turtle c.args.turtle) a.turtles)) (sym c.self.view_is) c.requires in
    turtle-key f.chains f.ends (record_at f.records) f.turtle_keys f.link_keys f.turtles_given f.links_given c.self.invariant.0 c.self.invariant.1 c.args.turtle lives

pub set_variable-requires : goal.set_variable-requires
set_variable-requires c =
    let f = c.self.inside in
    let lives = subst (λ (a : Agents). IsSome (find (is_turtle c.args.turtle) a.turtles)) (sym c.self.view_is) c.requires in
    turtle-record (record_at f.records c.key_of-key.result) (sym (ap is_some (turtle-there f.chains f.ends (record_at f.records) f.turtle_keys f.link_keys f.turtles_given f.links_given c.self.invariant.0 c.self.invariant.1 c.args.turtle c.key_of-key.result c.key_of-key.ensures)) ∙ lives)

pub returns-clause-old : goal.returns-clause-old
returns-clause-old c =
    let f = c.self.inside in
    let lives = subst (λ (a : Agents). IsSome (find (is_turtle c.args.turtle) a.turtles)) (sym c.self.view_is) c.requires in
    let same = ap (λ (a : Agents). turtle_entry c.args.slots.now c.args.slot c.args.turtle a.turtles) (sym c.self.view_is) ∙ ap (λ o. entry_of c.args.slots.now c.args.slot (option_map (λ (x : living.Turtle). x.vars) o)) (turtle-there f.chains f.ends (record_at f.records) f.turtle_keys f.link_keys f.turtles_given f.links_given c.self.invariant.0 c.self.invariant.1 c.args.turtle c.key_of-key.result c.key_of-key.ensures) ∙ ap (entry_of c.args.slots.now c.args.slot) (turtle-entries (fields_at (record_at f.records) c.key_of-key.result) (sym (ap is_some (turtle-there f.chains f.ends (record_at f.records) f.turtle_keys f.link_keys f.turtles_given f.links_given c.self.invariant.0 c.self.invariant.1 c.args.turtle c.key_of-key.result c.key_of-key.ensures)) ∙ lives)) in
    IfOk-weaker c.set_variable.result _ _ (λ old e. same ∙ e) c.set_variable.ensures.old

pub returns-clause-not_owned : goal.returns-clause-not_owned
returns-clause-not_owned c =
    let f = c.self.inside in
    let lives = subst (λ (a : Agents). IsSome (find (is_turtle c.args.turtle) a.turtles)) (sym c.self.view_is) c.requires in
    let same = ap (λ (a : Agents). turtle_entry c.args.slots.now c.args.slot c.args.turtle a.turtles) (sym c.self.view_is) ∙ ap (λ o. entry_of c.args.slots.now c.args.slot (option_map (λ (x : living.Turtle). x.vars) o)) (turtle-there f.chains f.ends (record_at f.records) f.turtle_keys f.link_keys f.turtles_given f.links_given c.self.invariant.0 c.self.invariant.1 c.args.turtle c.key_of-key.result c.key_of-key.ensures) ∙ ap (entry_of c.args.slots.now c.args.slot) (turtle-entries (fields_at (record_at f.records) c.key_of-key.result) (sym (ap is_some (turtle-there f.chains f.ends (record_at f.records) f.turtle_keys f.link_keys f.turtles_given f.links_given c.self.invariant.0 c.self.invariant.1 c.args.turtle c.key_of-key.result c.key_of-key.ensures)) ∙ lives)) in
    on_err_weaker c.set_variable.result (λ e. same ∙ e) c.set_variable.ensures.not_owned

pub invariant_of-self : goal.invariant_of-self
invariant_of-self c =
    let f = c.self.inside in
    let change : Vars → Vars = λ vars. value_set c.args.slots.now vars c.args.slot (plain c.args.value) in (
      set-turtle-files f.chains f.ends (record_at f.records) (key_in f.turtle_keys) (key_in f.link_keys) f.turtles_given f.links_given c.self.invariant.0 (record_at c.set_variable.new.records) c.key_of-key.result change c.set_variable.ensures.set c.args.turtle c.key_of-key.ensures,
      record { turtles = c.self.invariant.1.turtles ∙ sym (ap length (set-turtle-roll f.chains f.ends (record_at f.records) (key_in f.turtle_keys) (key_in f.link_keys) f.turtles_given f.links_given c.self.invariant.0 (record_at c.set_variable.new.records) c.key_of-key.result change c.set_variable.ensures.set c.args.turtle c.key_of-key.ensures) ∙ length-map (roll (turtle_at (record_at f.records)) (key_in f.turtle_keys) f.turtles_given) (altered turtle_serial (λ (x : living.Turtle). record x { vars = change x.vars }) c.args.turtle)); links = c.self.invariant.1.links ∙ sym (ap length (set-turtle-links f.chains f.ends (record_at f.records) (key_in f.turtle_keys) (key_in f.link_keys) f.turtles_given f.links_given c.self.invariant.0 (record_at c.set_variable.new.records) c.key_of-key.result change c.set_variable.ensures.set c.args.turtle c.key_of-key.ensures)) },
    )

pub returns-clause-set : goal.returns-clause-set
returns-clause-set c =
    let f = c.self.inside in
    let change : Vars → Vars = λ vars. value_set c.args.slots.now vars c.args.slot (plain c.args.value) in
    made f.chains.shape f.chains.shape (breeds_in f.chains) (breeds_in f.chains) _ _ _ _ f.turtles_given f.links_given refl refl (set-turtle-roll f.chains f.ends (record_at f.records) (key_in f.turtle_keys) (key_in f.link_keys) f.turtles_given f.links_given c.self.invariant.0 (record_at c.set_variable.new.records) c.key_of-key.result change c.set_variable.ensures.set c.args.turtle c.key_of-key.ensures) (set-turtle-links f.chains f.ends (record_at f.records) (key_in f.turtle_keys) (key_in f.link_keys) f.turtles_given f.links_given c.self.invariant.0 (record_at c.set_variable.new.records) c.key_of-key.result change c.set_variable.ensures.set c.args.turtle c.key_of-key.ensures)
    ∙ ap (λ (a : Agents). record a { turtles = turtles_filled change c.args.turtle a.turtles }) c.self.view_is
