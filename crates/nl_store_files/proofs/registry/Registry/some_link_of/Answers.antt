use Rattle.std.proofs.Common.{◌≡◌, ◌∙◌, ◌++◌, true, find, IsSome, is_some, sym, ap, ap₂, subst}
use Rattle.std.specs.Prelude.{IfSome}
use Rattle.std.specs.Option.{option_or}
use Rattle.std.specs.List.{list_any}
use Rattle.nl_agents.specs.Changes.{has_end, is_link, is_turtle}
use Rattle.nl_agents.specs.declared.agents.Link as tie
use Rattle.nl_store_records.specs.Records.{record_at, fields_at}
use Rattle.nl_index.specs.Index.{serial_in}
use Rattle.nl_store_lists.specs.Rolls.{roll}
use Rattle.nl_store_lists.proofs.Rolls.{item-found}
use Rattle.nl_store_files.specs.Agents.{link_at, link_serial, Agents}
use Rattle.nl_store_files.specs.Keys.{key_in}
use Rattle.nl_store_files.specs.Standing.{is_link as is_filed}
use Rattle.nl_store_files.proofs.Chosen.{first-both, none-listed, some-listed}
use Rattle.nl_store_files.proofs.Counting.{link-held}
use Rattle.nl_store_files.proofs.Filed.{turtle-key}
use Rattle.nl_store_files.proofs.Joined.{both-members}
use Rattle.nl_store_files.proofs.Looked.{link-number}
use Rattle.nl_store_files.proofs.registry.Registry.some_link_of.Goals as goal

pub firsts-firsts-requires : goal.firsts-firsts-requires
firsts-firsts-requires c =
    let f = c.self.inside in
    c.self.invariant.0.entered c.args.turtle ∙ turtle-key f.chains f.ends (record_at f.records) f.turtle_keys f.link_keys f.turtles_given f.links_given c.self.invariant.0 c.self.invariant.1 c.args.turtle (subst (λ (a : Agents). IsSome (find (is_turtle c.args.turtle) a.turtles)) (sym c.self.view_is) c.requires)

pub returns-in-None-clause-none : goal.returns-in-None-clause-none
returns-in-None-clause-none c =
    let f = c.self.inside in
    let v = c.self.invariant.0 in
    let none = none-listed (has_end c.args.turtle) (link_at (record_at f.records)) (key_in f.link_keys) f.links_given (v.joined.first c.args.turtle ++ v.joined.second c.args.turtle) (both-members f.chains f.ends (record_at f.records) (key_in f.turtle_keys) (key_in f.link_keys) f.turtles_given f.links_given c.self.invariant.0 c.args.turtle) (first-both (v.joined.first c.args.turtle) (v.joined.second c.args.turtle) ∙ sym (ap₂ option_or (c.firsts-firsts.ensures.first (record_at f.records) (is_filed (record_at f.records)) v.joined v.ended) (c.firsts-firsts.ensures.second (record_at f.records) (is_filed (record_at f.records)) v.joined v.ended)) ∙ sym c.in-None.ensures) in
    ap (λ (a : Agents). list_any (has_end c.args.turtle) a.links) (sym c.self.view_is) ∙ none

pub fields_of-requires : goal.fields_of-requires
fields_of-requires c =
    let f = c.self.inside in
    let v = c.self.invariant.0 in
    let it = some-listed (has_end c.args.turtle) (link_at (record_at f.records)) (key_in f.link_keys) f.links_given (v.joined.first c.args.turtle ++ v.joined.second c.args.turtle) (both-members f.chains f.ends (record_at f.records) (key_in f.turtle_keys) (key_in f.link_keys) f.turtles_given f.links_given c.self.invariant.0 c.args.turtle) c.in-Some.key (first-both (v.joined.first c.args.turtle) (v.joined.second c.args.turtle) ∙ sym (ap₂ option_or (c.firsts-firsts.ensures.first (record_at f.records) (is_filed (record_at f.records)) v.joined v.ended) (c.firsts-firsts.ensures.second (record_at f.records) (is_filed (record_at f.records)) v.joined v.ended)) ∙ sym c.in-Some.ensures) in
    link-held (record_at f.records) c.in-Some.key it.chosen it.is

pub returns-in-Some-clause-lives : goal.returns-in-Some-clause-lives
returns-in-Some-clause-lives c =
    let f = c.self.inside in
    let v = c.self.invariant.0 in
    let it = some-listed (has_end c.args.turtle) (link_at (record_at f.records)) (key_in f.link_keys) f.links_given (v.joined.first c.args.turtle ++ v.joined.second c.args.turtle) (both-members f.chains f.ends (record_at f.records) (key_in f.turtle_keys) (key_in f.link_keys) f.turtles_given f.links_given c.self.invariant.0 c.args.turtle) c.in-Some.key (first-both (v.joined.first c.args.turtle) (v.joined.second c.args.turtle) ∙ sym (ap₂ option_or (c.firsts-firsts.ensures.first (record_at f.records) (is_filed (record_at f.records)) v.joined v.ended) (c.firsts-firsts.ensures.second (record_at f.records) (is_filed (record_at f.records)) v.joined v.ended)) ∙ sym c.in-Some.ensures) in
    let serial : c.fields_of.result.now.serial ≡ it.chosen.serial = sym (ap serial_in c.fields_of.ensures) ∙ link-number (fields_at (record_at f.records) c.in-Some.key) it.chosen it.is in
    let found = ap (λ n. find (is_link n) (roll (link_at (record_at f.records)) (key_in f.link_keys) f.links_given)) serial ∙ item-found link_serial (link_at (record_at f.records)) (key_in f.link_keys) f.links_given v.links c.in-Some.key it.chosen it.is in
    ap (λ (a : Agents). is_some (find (is_link c.fields_of.result.now.serial) a.links)) (sym c.self.view_is) ∙ ap is_some found

pub returns-in-Some-clause-touches : goal.returns-in-Some-clause-touches
returns-in-Some-clause-touches c =
    let f = c.self.inside in
    let v = c.self.invariant.0 in
    let it = some-listed (has_end c.args.turtle) (link_at (record_at f.records)) (key_in f.link_keys) f.links_given (v.joined.first c.args.turtle ++ v.joined.second c.args.turtle) (both-members f.chains f.ends (record_at f.records) (key_in f.turtle_keys) (key_in f.link_keys) f.turtles_given f.links_given c.self.invariant.0 c.args.turtle) c.in-Some.key (first-both (v.joined.first c.args.turtle) (v.joined.second c.args.turtle) ∙ sym (ap₂ option_or (c.firsts-firsts.ensures.first (record_at f.records) (is_filed (record_at f.records)) v.joined v.ended) (c.firsts-firsts.ensures.second (record_at f.records) (is_filed (record_at f.records)) v.joined v.ended)) ∙ sym c.in-Some.ensures) in
    let serial : c.fields_of.result.now.serial ≡ it.chosen.serial = sym (ap serial_in c.fields_of.ensures) ∙ link-number (fields_at (record_at f.records) c.in-Some.key) it.chosen it.is in
    let found = ap (λ n. find (is_link n) (roll (link_at (record_at f.records)) (key_in f.link_keys) f.links_given)) serial ∙ item-found link_serial (link_at (record_at f.records)) (key_in f.link_keys) f.links_given v.links c.in-Some.key it.chosen it.is in
    let there = ap (λ (a : Agents). find (is_link c.fields_of.result.now.serial) a.links) (sym c.self.view_is) ∙ found in
    subst (λ o. IfSome o (λ (l : tie.Link). has_end c.args.turtle l ≡ true)) (sym there) it.passes_it
