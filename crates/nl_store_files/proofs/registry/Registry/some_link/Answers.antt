use Rattle.std.proofs.Common.{◌≡◌, ◌∙◌, true, find, is_some, sym, ap}
use Rattle.nl_agents.specs.Changes.{is_link}
use Rattle.nl_agents.specs.declared.agents.Link as tie
use Rattle.nl_store_records.specs.Records.{record_at, fields_at}
use Rattle.nl_index.specs.Index.{serial_in}
use Rattle.nl_store_lists.specs.Rolls.{roll}
use Rattle.nl_store_lists.proofs.Rolls.{item-found}
use Rattle.nl_store_files.specs.Agents.{link_at, link_serial, Agents}
use Rattle.nl_store_files.specs.Keys.{key_in}
use Rattle.nl_store_files.specs.Standing.{held}
use Rattle.nl_store_files.proofs.Chosen.{none-any, none-listed, some-listed}
use Rattle.nl_store_files.proofs.Counting.{link-held}
use Rattle.nl_store_files.proofs.Looked.{link-number}
use Rattle.nl_store_files.proofs.Members.{link-members}
use Rattle.nl_store_files.proofs.registry.Registry.some_link.Goals as goal

pub first-requires-clause-whole : goal.first-requires-clause-whole
first-requires-clause-whole c = c.self.invariant.0.index.whole

pub returns-in-None-clause-none : goal.returns-in-None-clause-none
returns-in-None-clause-none c =
    let f = c.self.inside in
    let v = c.self.invariant.0 in
    let none = none-listed (λ (l : tie.Link). true) (link_at (record_at f.records)) (key_in f.link_keys) f.links_given (v.lists.births 1) (link-members f.chains f.ends (record_at f.records) (key_in f.turtle_keys) (key_in f.link_keys) f.turtles_given f.links_given c.self.invariant.0) (sym (c.in-None.ensures (record_at f.records) (held (record_at f.records)) v.lists v.index)) in
    ap (λ (a : Agents). a.links) (sym c.self.view_is) ∙ none-any (roll (link_at (record_at f.records)) (key_in f.link_keys) f.links_given) none

pub fields_of-requires : goal.fields_of-requires
fields_of-requires c =
    let f = c.self.inside in
    let v = c.self.invariant.0 in
    let it = some-listed (λ (l : tie.Link). true) (link_at (record_at f.records)) (key_in f.link_keys) f.links_given (v.lists.births 1) (link-members f.chains f.ends (record_at f.records) (key_in f.turtle_keys) (key_in f.link_keys) f.turtles_given f.links_given c.self.invariant.0) c.in-Some.key (sym (c.in-Some.ensures (record_at f.records) (held (record_at f.records)) v.lists v.index)) in
    link-held (record_at f.records) c.in-Some.key it.chosen it.is

pub returns-in-Some-clause-lives : goal.returns-in-Some-clause-lives
returns-in-Some-clause-lives c =
    let f = c.self.inside in
    let v = c.self.invariant.0 in
    let it = some-listed (λ (l : tie.Link). true) (link_at (record_at f.records)) (key_in f.link_keys) f.links_given (v.lists.births 1) (link-members f.chains f.ends (record_at f.records) (key_in f.turtle_keys) (key_in f.link_keys) f.turtles_given f.links_given c.self.invariant.0) c.in-Some.key (sym (c.in-Some.ensures (record_at f.records) (held (record_at f.records)) v.lists v.index)) in
    let serial : c.fields_of.result.now.serial ≡ it.chosen.serial = sym (ap serial_in c.fields_of.ensures) ∙ link-number (fields_at (record_at f.records) c.in-Some.key) it.chosen it.is in
    let found = ap (λ n. find (is_link n) (roll (link_at (record_at f.records)) (key_in f.link_keys) f.links_given)) serial ∙ item-found link_serial (link_at (record_at f.records)) (key_in f.link_keys) f.links_given v.links c.in-Some.key it.chosen it.is in
    ap (λ (a : Agents). is_some (find (is_link c.fields_of.result.now.serial) a.links)) (sym c.self.view_is) ∙ ap is_some found
