use Rattle.std.proofs.Common.{◌∙◌, find, length, IsSome, is_some, refl, sym, ap, subst}
use Rattle.std.specs.Option.{option_map}
use Rattle.std.proofs.lemmas.List.{length-map}
use Rattle.std.proofs.lemmas.Result.{IfOk-weaker, on_err_weaker}
use Rattle.nl_value.specs.Views.{plain}
use Rattle.nl_agents.specs.Nouns.{Vars}
use Rattle.nl_agents.specs.Changes.{is_link, value_set}
use Rattle.nl_agents.specs.declared.agents.Link as tie
use Rattle.nl_store_records.specs.Records.{record_at, fields_at}
use Rattle.nl_index.specs.Index.{breeds_in}
use Rattle.nl_store_lists.specs.Rolls.{roll}
use Rattle.nl_store_lists.proofs.Collecting.{altered}
use Rattle.nl_store_files.specs.Agents.{entry_of, link_at, link_entry, link_serial, links_filled, Agents}
use Rattle.nl_store_files.specs.Keys.{key_in}
use Rattle.nl_store_files.proofs.Filed.{link-key, link-there, made}
use Rattle.nl_store_files.proofs.Looked.{link-entries, link-record}
use Rattle.nl_store_files.proofs.Altering.{set-link-files, set-link-roll, set-link-turtles}
use Rattle.nl_store_files.proofs.registry.Registry.set_link.Goals as goal

pub key_of-key-requires : goal.key_of-key-requires
key_of-key-requires c =
    let f = c.self.inside in
    let lives = subst (λ (a : Agents). IsSome (find (is_link c.args.link) a.links)) (sym c.self.view_is) c.requires in
    link-key f.chains f.ends (record_at f.records) f.turtle_keys f.link_keys f.turtles_given f.links_given c.self.invariant.0 c.self.invariant.1 c.args.link lives

pub set_variable-requires : goal.set_variable-requires
set_variable-requires c =
    let f = c.self.inside in
    let lives = subst (λ (a : Agents). IsSome (find (is_link c.args.link) a.links)) (sym c.self.view_is) c.requires in
    link-record (record_at f.records c.key_of-key.result) (sym (ap is_some (link-there f.chains f.ends (record_at f.records) f.turtle_keys f.link_keys f.turtles_given f.links_given c.self.invariant.0 c.self.invariant.1 c.args.link c.key_of-key.result c.key_of-key.ensures)) ∙ lives)

pub returns-clause-old : goal.returns-clause-old
returns-clause-old c =
    let f = c.self.inside in
    let lives = subst (λ (a : Agents). IsSome (find (is_link c.args.link) a.links)) (sym c.self.view_is) c.requires in
    let same = ap (λ (a : Agents). link_entry c.args.slots.now c.args.slot c.args.link a.links) (sym c.self.view_is) ∙ ap (λ o. entry_of c.args.slots.now c.args.slot (option_map (λ (x : tie.Link). x.vars) o)) (link-there f.chains f.ends (record_at f.records) f.turtle_keys f.link_keys f.turtles_given f.links_given c.self.invariant.0 c.self.invariant.1 c.args.link c.key_of-key.result c.key_of-key.ensures) ∙ ap (entry_of c.args.slots.now c.args.slot) (link-entries (fields_at (record_at f.records) c.key_of-key.result) (sym (ap is_some (link-there f.chains f.ends (record_at f.records) f.turtle_keys f.link_keys f.turtles_given f.links_given c.self.invariant.0 c.self.invariant.1 c.args.link c.key_of-key.result c.key_of-key.ensures)) ∙ lives)) in
    IfOk-weaker c.set_variable.result _ _ (λ old e. same ∙ e) c.set_variable.ensures.old

pub returns-clause-not_owned : goal.returns-clause-not_owned
returns-clause-not_owned c =
    let f = c.self.inside in
    let lives = subst (λ (a : Agents). IsSome (find (is_link c.args.link) a.links)) (sym c.self.view_is) c.requires in
    let same = ap (λ (a : Agents). link_entry c.args.slots.now c.args.slot c.args.link a.links) (sym c.self.view_is) ∙ ap (λ o. entry_of c.args.slots.now c.args.slot (option_map (λ (x : tie.Link). x.vars) o)) (link-there f.chains f.ends (record_at f.records) f.turtle_keys f.link_keys f.turtles_given f.links_given c.self.invariant.0 c.self.invariant.1 c.args.link c.key_of-key.result c.key_of-key.ensures) ∙ ap (entry_of c.args.slots.now c.args.slot) (link-entries (fields_at (record_at f.records) c.key_of-key.result) (sym (ap is_some (link-there f.chains f.ends (record_at f.records) f.turtle_keys f.link_keys f.turtles_given f.links_given c.self.invariant.0 c.self.invariant.1 c.args.link c.key_of-key.result c.key_of-key.ensures)) ∙ lives)) in
    on_err_weaker c.set_variable.result (λ e. same ∙ e) c.set_variable.ensures.not_owned

pub invariant_of-self : goal.invariant_of-self
invariant_of-self c =
    let f = c.self.inside in
    let change : Vars → Vars = λ vars. value_set c.args.slots.now vars c.args.slot (plain c.args.value) in (
      set-link-files f.chains f.ends (record_at f.records) (key_in f.turtle_keys) (key_in f.link_keys) f.turtles_given f.links_given c.self.invariant.0 (record_at c.set_variable.new.records) c.key_of-key.result change c.set_variable.ensures.set c.args.link c.key_of-key.ensures,
      record { links = c.self.invariant.1.links ∙ sym (ap length (set-link-roll f.chains f.ends (record_at f.records) (key_in f.turtle_keys) (key_in f.link_keys) f.turtles_given f.links_given c.self.invariant.0 (record_at c.set_variable.new.records) c.key_of-key.result change c.set_variable.ensures.set c.args.link c.key_of-key.ensures) ∙ length-map (roll (link_at (record_at f.records)) (key_in f.link_keys) f.links_given) (altered link_serial (λ (x : tie.Link). record x { vars = change x.vars }) c.args.link)); turtles = c.self.invariant.1.turtles ∙ sym (ap length (set-link-turtles f.chains f.ends (record_at f.records) (key_in f.turtle_keys) (key_in f.link_keys) f.turtles_given f.links_given c.self.invariant.0 (record_at c.set_variable.new.records) c.key_of-key.result change c.set_variable.ensures.set c.args.link c.key_of-key.ensures)) },
    )

pub returns-clause-set : goal.returns-clause-set
returns-clause-set c =
    let f = c.self.inside in
    let change : Vars → Vars = λ vars. value_set c.args.slots.now vars c.args.slot (plain c.args.value) in
    made f.chains.shape f.chains.shape (breeds_in f.chains) (breeds_in f.chains) _ _ _ _ f.turtles_given f.links_given refl refl (set-link-turtles f.chains f.ends (record_at f.records) (key_in f.turtle_keys) (key_in f.link_keys) f.turtles_given f.links_given c.self.invariant.0 (record_at c.set_variable.new.records) c.key_of-key.result change c.set_variable.ensures.set c.args.link c.key_of-key.ensures) (set-link-roll f.chains f.ends (record_at f.records) (key_in f.turtle_keys) (key_in f.link_keys) f.turtles_given f.links_given c.self.invariant.0 (record_at c.set_variable.new.records) c.key_of-key.result change c.set_variable.ensures.set c.args.link c.key_of-key.ensures)
    ∙ ap (λ (a : Agents). record a { links = links_filled change c.args.link a.links }) c.self.view_is
