use Rattle.std.proofs.Common.{◌≡◌, ◌∙◌, ◌+◌, length, cond, false, not, filter, find, IsSome, sym, ap, subst}
use Rattle.std.specs.List.{list_any}
use Rattle.nl_agents.specs.Changes.{has_end, is_turtle}
use Rattle.nl_agents.specs.declared.agents.Turtle as living
use Rattle.nl_store_records.specs.Records.{record_at}
use Rattle.nl_store_files.specs.Agents.{turtle_at, Agents}
use Rattle.std.proofs.lemmas.Option.{same_Some}
use Rattle.nl_store_lists.specs.Rolls.{roll}
use Rattle.nl_store_files.specs.Keys.{key_in}
use Rattle.nl_store_files.proofs.Parts.{held-of-bare}
use Rattle.nl_store_files.proofs.Leaving.{turtle-counts, is-free, turtle-is-held, turtle-is-listed}
use Rattle.nl_store_files.proofs.Filed.{turtle-key, turtle-there}
use Rattle.nl_store_files.proofs.Removed.{turtle-agents, turtle-counted, turtle-removed}
use Rattle.nl_store_files.proofs.registry.Registry.remove_turtle.Goals as goal

pub take-key-requires : goal.take-key-requires
take-key-requires c =
    let f = c.self.inside in
    turtle-key f.chains f.ends (record_at f.records) f.turtle_keys f.link_keys f.turtles_given f.links_given c.self.invariant.0 c.self.invariant.1 c.args.turtle (subst (λ (a : Agents). IsSome (find (is_turtle c.args.turtle) a.turtles)) (sym c.self.view_is) c.requires.lives)

pub leave-requires-clause-free : goal.leave-requires-clause-free
leave-requires-clause-free c =
    let f = c.self.inside in
    let free = subst (λ (a : Agents). list_any (has_end c.args.turtle) a.links ≡ false) (sym c.self.view_is) c.requires.free in
    is-free f.chains f.ends (record_at f.records) (key_in f.turtle_keys) (key_in f.link_keys) f.turtles_given f.links_given c.self.invariant.0 c.args.turtle c.take-key.result c.take-key.ensures.key free

pub remove-requires-clause-held : goal.remove-requires-clause-held
remove-requires-clause-held c =
    let f = c.self.inside in
    let free = subst (λ (a : Agents). list_any (has_end c.args.turtle) a.links ≡ false) (sym c.self.view_is) c.requires.free in
    turtle-is-held f.chains f.ends (record_at f.records) (key_in f.turtle_keys) (key_in f.link_keys) f.turtles_given f.links_given c.self.invariant.0 c.args.turtle c.take-key.result c.take-key.ensures.key free

pub remove-requires-clause-listed : goal.remove-requires-clause-listed
remove-requires-clause-listed c =
    let f = c.self.inside in
    let free = subst (λ (a : Agents). list_any (has_end c.args.turtle) a.links ≡ false) (sym c.self.view_is) c.requires.free in
    turtle-is-listed f.chains f.ends (record_at f.records) (key_in f.turtle_keys) (key_in f.link_keys) f.turtles_given f.links_given c.self.invariant.0 c.args.turtle c.take-key.result c.take-key.ensures.key free

pub take-requires : goal.take-requires
take-requires c =
    let f = c.self.inside in
    let free = subst (λ (a : Agents). list_any (has_end c.args.turtle) a.links ≡ false) (sym c.self.view_is) c.requires.free in
    held-of-bare (record_at f.records) (record_at c.remove.new.records) c.remove.ensures.others c.take-key.result ∙ turtle-is-held f.chains f.ends (record_at f.records) (key_in f.turtle_keys) (key_in f.link_keys) f.turtles_given f.links_given c.self.invariant.0 c.args.turtle c.take-key.result c.take-key.ensures.key free

pub invariant_of-self : goal.invariant_of-self
invariant_of-self c =
    let f = c.self.inside in
    let free = subst (λ (a : Agents). list_any (has_end c.args.turtle) a.links ≡ false) (sym c.self.view_is) c.requires.free in (
      turtle-removed f.chains f.ends (record_at f.records) f.turtle_keys f.link_keys f.turtles_given f.links_given c.self.invariant.0 c.self.invariant.1 c.args.turtle c.take-key.result c.take-key.ensures.key free c.leave.new.self c.remove.new.self (record_at c.remove.new.records) (record_at c.take.new.self) c.take-key.new.self c.leave.ensures.ended c.leave.ensures.held c.remove.ensures.removed c.remove.ensures.others c.remove.ensures.size c.take.ensures.taken c.take-key.ensures.taken c.take-key.ensures.count,
      turtle-counted f.chains f.ends (record_at f.records) f.turtle_keys f.link_keys f.turtles_given f.links_given c.self.invariant.0 c.self.invariant.1 c.args.turtle c.take-key.result c.take-key.ensures.key free c.leave.new.self c.remove.new.self (record_at c.remove.new.records) (record_at c.take.new.self) c.take-key.new.self c.leave.ensures.ended c.leave.ensures.held c.remove.ensures.removed c.remove.ensures.others c.remove.ensures.size c.take.ensures.taken c.take-key.ensures.taken c.take-key.ensures.count,
    )

pub returns-clause-left : goal.returns-clause-left
returns-clause-left c =
    let f = c.self.inside in
    let free = subst (λ (a : Agents). list_any (has_end c.args.turtle) a.links ≡ false) (sym c.self.view_is) c.requires.free in
    turtle-agents f.chains f.ends (record_at f.records) f.turtle_keys f.link_keys f.turtles_given f.links_given c.self.invariant.0 c.self.invariant.1 c.args.turtle c.take-key.result c.take-key.ensures.key free c.leave.new.self c.remove.new.self (record_at c.remove.new.records) (record_at c.take.new.self) c.take-key.new.self c.leave.ensures.ended c.leave.ensures.held c.remove.ensures.removed c.remove.ensures.others c.remove.ensures.size c.take.ensures.taken c.take-key.ensures.taken c.take-key.ensures.count
    ∙ ap (λ (a : Agents). record a { turtles = filter (λ (t : living.Turtle). not (is_turtle c.args.turtle t)) a.turtles }) c.self.view_is

pub returns-clause-counts : goal.returns-clause-counts
returns-clause-counts c test x e =
    let f = c.self.inside in
    let free = subst (λ (a : Agents). list_any (has_end c.args.turtle) a.links ≡ false) (sym c.self.view_is) c.requires.free in
    let gone : living.Turtle = (c.self.invariant.0.turtles.right c.args.turtle c.take-key.result c.take-key.ensures.key).item in
    let found = turtle-there f.chains f.ends (record_at f.records) f.turtle_keys f.link_keys f.turtles_given f.links_given c.self.invariant.0 c.self.invariant.1 c.args.turtle c.take-key.result c.take-key.ensures.key ∙ (c.self.invariant.0.turtles.right c.args.turtle c.take-key.result c.take-key.ensures.key).is in
    let same : gone ≡ x = same_Some gone x (sym found ∙ ap (λ (a : Agents). find (is_turtle c.args.turtle) a.turtles) c.self.view_is ∙ e) in
    let counts = turtle-counts f.chains f.ends (record_at f.records) (key_in f.turtle_keys) (key_in f.link_keys) f.turtles_given f.links_given c.self.invariant.0 c.args.turtle c.take-key.result c.take-key.ensures.key free c.leave.new.self c.remove.new.self (record_at c.remove.new.records) (record_at c.take.new.self) (key_in c.take-key.new.self) c.leave.ensures.ended c.leave.ensures.held c.remove.ensures.removed c.remove.ensures.others c.take.ensures.taken c.take-key.ensures.taken test in
    ap (λ (y : living.Turtle). length (filter test (roll (turtle_at (record_at c.take.new.self)) (key_in c.take-key.new.self) f.turtles_given)) + cond (test y) 1 0) (sym same)
    ∙ counts ∙ ap (λ (a : Agents). length (filter test a.turtles)) c.self.view_is
