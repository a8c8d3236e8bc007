-- The chain of the patch is walked.
use Rattle.std.proofs.Common.{◌∙◌, ◌<◌, filter, length, sym, ap, subst, arith, eqb}
use Rattle.nl_grid.specs.Geometry.{patch_at, patches_of}
use Rattle.nl_agents.specs.declared.agents.Turtle as living
use Rattle.nl_store_records.specs.Records.{record_at}
use Rattle.nl_store_files.specs.Agents.{Agents}
use Rattle.nl_store_files.specs.Keys.{key_in}
use Rattle.nl_store_files.specs.Standing.{held}
use Rattle.nl_store_files.proofs.Chained.{patch-few, patch-long, patch-path}
use Rattle.nl_store_files.proofs.registry.Registry.count_on.Goals as goal

pub first-requires-clause-whole : goal.first-requires-clause-whole
first-requires-clause-whole g c = c.self.invariant.0.index.whole

pub first-requires-clause-chain : goal.first-requires-clause-chain
first-requires-clause-chain g c = subst (λ (a : Agents). c.args.patch < patches_of a.shape) (sym c.self.view_is) c.requires

pub length-requires-clause-path : goal.length-requires-clause-path
length-requires-clause-path g c =
    let f = c.self.inside in
    let v = c.self.invariant.0 in
    let at = record_at f.records in
    let ks = v.lists.patches c.args.patch in
    let path = patch-path f.chains f.ends at (key_in f.turtle_keys) (key_in f.link_keys) f.turtles_given f.links_given v c.args.patch _ (c.first.ensures at (held at) v.lists v.index) in
    let few = patch-few f.chains f.ends at (key_in f.turtle_keys) (key_in f.link_keys) f.turtles_given f.links_given v c.args.patch _ (c.len-most.ensures ∙ c.self.invariant.1.turtles) in
    record { keys = ks; path = path; short = few }

pub returns-clause-many : goal.returns-clause-many
returns-clause-many g c =
    let f = c.self.inside in
    let v = c.self.invariant.0 in
    let at = record_at f.records in
    let ks = v.lists.patches c.args.patch in
    let path = patch-path f.chains f.ends at (key_in f.turtle_keys) (key_in f.link_keys) f.turtles_given f.links_given v c.args.patch _ (c.first.ensures at (held at) v.lists v.index) in
    let few = patch-few f.chains f.ends at (key_in f.turtle_keys) (key_in f.link_keys) f.turtles_given f.links_given v c.args.patch _ (c.len-most.ensures ∙ c.self.invariant.1.turtles) in
    let long = patch-long f.chains f.ends at (key_in f.turtle_keys) (key_in f.link_keys) f.turtles_given f.links_given v c.args.patch in
    c.length.ensures.many ks path few ∙ long
    ∙ ap (λ (a : Agents). length (filter (λ (x : living.Turtle). eqb (patch_at a.shape x.at) c.args.patch) a.turtles)) c.self.view_is

pub returns-clause-reads : goal.returns-clause-reads
returns-clause-reads g c =
    let f = c.self.inside in
    let v = c.self.invariant.0 in
    let at = record_at f.records in
    let ks = v.lists.patches c.args.patch in
    let path = patch-path f.chains f.ends at (key_in f.turtle_keys) (key_in f.link_keys) f.turtles_given f.links_given v c.args.patch _ (c.first.ensures at (held at) v.lists v.index) in
    let few = patch-few f.chains f.ends at (key_in f.turtle_keys) (key_in f.link_keys) f.turtles_given f.links_given v c.args.patch _ (c.len-most.ensures ∙ c.self.invariant.1.turtles) in
    let paid = c.length.ensures.reads ks path few in
    let long = patch-long f.chains f.ends at (key_in f.turtle_keys) (key_in f.link_keys) f.turtles_given f.links_given v c.args.patch in
    let same = ap (λ (a : Agents). length (filter (λ (x : living.Turtle). eqb (patch_at a.shape x.at) c.args.patch) a.turtles)) c.self.view_is in
    omega (arith, paid, long, same)
