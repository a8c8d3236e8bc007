use Rattle.std.proofs.Common.{◌≡◌, ◌∙◌, find, is_some, sym, ap}
use Rattle.nl_agents.specs.Changes.{is_turtle}
use Rattle.nl_store_records.specs.Records.{record_at, fields_at}
use Rattle.nl_index.specs.Index.{serial_in}
use Rattle.nl_index.specs.declared.chains.Chain.TheVariants as chain
use Rattle.nl_store_lists.specs.Rolls.{roll}
use Rattle.nl_store_lists.proofs.Rolls.{item-found}
use Rattle.nl_store_files.specs.Agents.{turtle_at, turtle_serial, Agents}
use Rattle.nl_store_files.specs.Keys.{key_in}
use Rattle.nl_store_files.specs.Standing.{held}
use Rattle.nl_store_files.proofs.Chosen.{none-any, none-listed, some-listed}
use Rattle.nl_store_files.proofs.Counting.{turtle-held}
use Rattle.nl_store_files.proofs.Looked.{turtle-number}
use Rattle.nl_store_files.proofs.Members.{turtle-members, turtle_of_chain}
use Rattle.nl_store_files.proofs.registry.Registry.some_turtle.Goals as goal

pub first-requires-clause-whole : goal.first-requires-clause-whole
first-requires-clause-whole c = c.self.invariant.0.index.whole

pub returns-in-None-clause-none : goal.returns-in-None-clause-none
returns-in-None-clause-none c =
    let f = c.self.inside in
    let v = c.self.invariant.0 in
    let none = none-listed (turtle_of_chain f.chains.shape chain.Turtles) (turtle_at (record_at f.records)) (key_in f.turtle_keys) f.turtles_given (v.lists.births 0) (turtle-members f.chains f.ends (record_at f.records) (key_in f.turtle_keys) (key_in f.link_keys) f.turtles_given f.links_given c.self.invariant.0 chain.Turtles tt) (sym (c.in-None.ensures (record_at f.records) (held (record_at f.records)) v.lists v.index)) in
    ap (λ (a : Agents). a.turtles) (sym c.self.view_is) ∙ none-any (roll (turtle_at (record_at f.records)) (key_in f.turtle_keys) f.turtles_given) none

pub fields_of-requires : goal.fields_of-requires
fields_of-requires c =
    let f = c.self.inside in
    let v = c.self.invariant.0 in
    let it = some-listed (turtle_of_chain f.chains.shape chain.Turtles) (turtle_at (record_at f.records)) (key_in f.turtle_keys) f.turtles_given (v.lists.births 0) (turtle-members f.chains f.ends (record_at f.records) (key_in f.turtle_keys) (key_in f.link_keys) f.turtles_given f.links_given c.self.invariant.0 chain.Turtles tt) c.in-Some.key (sym (c.in-Some.ensures (record_at f.records) (held (record_at f.records)) v.lists v.index)) in
    turtle-held (record_at f.records) c.in-Some.key it.chosen it.is

pub returns-in-Some-clause-lives : goal.returns-in-Some-clause-lives
returns-in-Some-clause-lives c =
    let f = c.self.inside in
    let v = c.self.invariant.0 in
    let it = some-listed (turtle_of_chain f.chains.shape chain.Turtles) (turtle_at (record_at f.records)) (key_in f.turtle_keys) f.turtles_given (v.lists.births 0) (turtle-members f.chains f.ends (record_at f.records) (key_in f.turtle_keys) (key_in f.link_keys) f.turtles_given f.links_given c.self.invariant.0 chain.Turtles tt) c.in-Some.key (sym (c.in-Some.ensures (record_at f.records) (held (record_at f.records)) v.lists v.index)) in
    let serial : c.fields_of.result.now.serial ≡ it.chosen.serial = sym (ap serial_in c.fields_of.ensures) ∙ turtle-number (fields_at (record_at f.records) c.in-Some.key) it.chosen it.is in
    let found = ap (λ n. find (is_turtle n) (roll (turtle_at (record_at f.records)) (key_in f.turtle_keys) f.turtles_given)) serial ∙ item-found turtle_serial (turtle_at (record_at f.records)) (key_in f.turtle_keys) f.turtles_given v.turtles c.in-Some.key it.chosen it.is in
    ap (λ (a : Agents). is_some (find (is_turtle c.fields_of.result.now.serial) a.turtles)) (sym c.self.view_is) ∙ ap is_some found
