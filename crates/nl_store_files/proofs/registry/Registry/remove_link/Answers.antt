use Rattle.std.proofs.Common.{◌≡◌, ◌∙◌, ◌+◌, length, cond, not, filter, find, IsSome, sym, ap, subst}
use Rattle.nl_agents.specs.Changes.{is_link}
use Rattle.nl_agents.specs.declared.agents.Link as tie
use Rattle.nl_store_records.specs.Records.{record_at}
use Rattle.nl_store_files.specs.Agents.{link_at, Agents}
use Rattle.std.proofs.lemmas.Option.{same_Some}
use Rattle.nl_store_lists.specs.Rolls.{roll}
use Rattle.nl_store_files.specs.Keys.{key_in}
use Rattle.nl_store_files.proofs.Parts.{held-of-bare}
use Rattle.nl_store_files.proofs.Going.{link-counts, is-joined, link-held-then, link-is-held, link-is-listed}
use Rattle.nl_store_files.proofs.Filed.{link-key, link-there}
use Rattle.nl_store_files.proofs.Removed.{link-agents, link-counted, link-removed}
use Rattle.nl_store_files.proofs.registry.Registry.remove_link.Goals as goal

pub take-key-requires : goal.take-key-requires
take-key-requires c =
    let f = c.self.inside in
    link-key f.chains f.ends (record_at f.records) f.turtle_keys f.link_keys f.turtles_given f.links_given c.self.invariant.0 c.self.invariant.1 c.args.link (subst (λ (a : Agents). IsSome (find (is_link c.args.link) a.links)) (sym c.self.view_is) c.requires)

pub remove-requires-clause-held : goal.remove-requires-clause-held
remove-requires-clause-held c =
    let f = c.self.inside in
    link-is-held f.chains f.ends (record_at f.records) (key_in f.turtle_keys) (key_in f.link_keys) f.turtles_given f.links_given c.self.invariant.0 c.args.link c.take-key.result c.take-key.ensures.key

pub remove-requires-clause-joined : goal.remove-requires-clause-joined
remove-requires-clause-joined c =
    let f = c.self.inside in
    is-joined f.chains f.ends (record_at f.records) (key_in f.turtle_keys) (key_in f.link_keys) f.turtles_given f.links_given c.self.invariant.0 c.args.link c.take-key.result c.take-key.ensures.key

pub remove-requires-2-clause-held : goal.remove-requires-2-clause-held
remove-requires-2-clause-held c =
    let f = c.self.inside in
    link-held-then f.chains f.ends (record_at f.records) (key_in f.turtle_keys) (key_in f.link_keys) f.turtles_given f.links_given c.self.invariant.0 c.args.link c.take-key.result c.take-key.ensures.key c.remove.new.self (record_at c.remove.new.records) c.remove.ensures.parted c.remove.ensures.others c.remove.ensures.turtles

pub remove-requires-2-clause-listed : goal.remove-requires-2-clause-listed
remove-requires-2-clause-listed c =
    let f = c.self.inside in
    link-is-listed f.chains f.ends (record_at f.records) (key_in f.turtle_keys) (key_in f.link_keys) f.turtles_given f.links_given c.self.invariant.0 c.args.link c.take-key.result c.take-key.ensures.key c.remove.new.self (record_at c.remove.new.records) c.remove.ensures.parted c.remove.ensures.others c.remove.ensures.turtles

pub take-requires : goal.take-requires
take-requires c =
    let f = c.self.inside in
    held-of-bare (record_at c.remove.new.records) (record_at c.remove-2.new.records) c.remove-2.ensures.others c.take-key.result ∙ link-held-then f.chains f.ends (record_at f.records) (key_in f.turtle_keys) (key_in f.link_keys) f.turtles_given f.links_given c.self.invariant.0 c.args.link c.take-key.result c.take-key.ensures.key c.remove.new.self (record_at c.remove.new.records) c.remove.ensures.parted c.remove.ensures.others c.remove.ensures.turtles

pub invariant_of-self : goal.invariant_of-self
invariant_of-self c =
    let f = c.self.inside in (
      link-removed f.chains f.ends (record_at f.records) f.turtle_keys f.link_keys f.turtles_given f.links_given c.self.invariant.0 c.self.invariant.1 c.args.link c.take-key.result c.take-key.ensures.key c.remove.new.self (record_at c.remove.new.records) c.remove.ensures.parted c.remove.ensures.others c.remove.ensures.turtles c.remove-2.new.self (record_at c.remove-2.new.records) (record_at c.take.new.self) c.take-key.new.self c.remove-2.ensures.removed c.remove-2.ensures.others c.remove-2.ensures.size c.take.ensures.taken c.take-key.ensures.taken c.take-key.ensures.count,
      link-counted f.chains f.ends (record_at f.records) f.turtle_keys f.link_keys f.turtles_given f.links_given c.self.invariant.0 c.self.invariant.1 c.args.link c.take-key.result c.take-key.ensures.key c.remove.new.self (record_at c.remove.new.records) c.remove.ensures.parted c.remove.ensures.others c.remove.ensures.turtles c.remove-2.new.self (record_at c.remove-2.new.records) (record_at c.take.new.self) c.take-key.new.self c.remove-2.ensures.removed c.remove-2.ensures.others c.remove-2.ensures.size c.take.ensures.taken c.take-key.ensures.taken c.take-key.ensures.count,
    )

pub returns-clause-left : goal.returns-clause-left
returns-clause-left c =
    let f = c.self.inside in
    link-agents f.chains f.ends (record_at f.records) f.turtle_keys f.link_keys f.turtles_given f.links_given c.self.invariant.0 c.self.invariant.1 c.args.link c.take-key.result c.take-key.ensures.key c.remove.new.self (record_at c.remove.new.records) c.remove.ensures.parted c.remove.ensures.others c.remove.ensures.turtles c.remove-2.new.self (record_at c.remove-2.new.records) (record_at c.take.new.self) c.take-key.new.self c.remove-2.ensures.removed c.remove-2.ensures.others c.remove-2.ensures.size c.take.ensures.taken c.take-key.ensures.taken c.take-key.ensures.count
    ∙ ap (λ (a : Agents). record a { links = filter (λ (l : tie.Link). not (is_link c.args.link l)) a.links }) c.self.view_is

pub returns-clause-counts : goal.returns-clause-counts
returns-clause-counts c test x e =
    let f = c.self.inside in
    let gone : tie.Link = (c.self.invariant.0.links.right c.args.link c.take-key.result c.take-key.ensures.key).item in
    let found = link-there f.chains f.ends (record_at f.records) f.turtle_keys f.link_keys f.turtles_given f.links_given c.self.invariant.0 c.self.invariant.1 c.args.link c.take-key.result c.take-key.ensures.key ∙ (c.self.invariant.0.links.right c.args.link c.take-key.result c.take-key.ensures.key).is in
    let same : gone ≡ x = same_Some gone x (sym found ∙ ap (λ (a : Agents). find (is_link c.args.link) a.links) c.self.view_is ∙ e) in
    let counts = link-counts f.chains f.ends (record_at f.records) (key_in f.turtle_keys) (key_in f.link_keys) f.turtles_given f.links_given c.self.invariant.0 c.args.link c.take-key.result c.take-key.ensures.key c.remove.new.self (record_at c.remove.new.records) c.remove.ensures.parted c.remove.ensures.others c.remove.ensures.turtles c.remove-2.new.self (record_at c.remove-2.new.records) (record_at c.take.new.self) (key_in c.take-key.new.self) c.remove-2.ensures.removed c.remove-2.ensures.others c.take.ensures.taken c.take-key.ensures.taken test in
    ap (λ (y : tie.Link). length (filter test (roll (link_at (record_at c.take.new.self)) (key_in c.take-key.new.self) f.links_given)) + cond (test y) 1 0) (sym same)
    ∙ counts ∙ ap (λ (a : Agents). length (filter test a.links)) c.self.view_is
