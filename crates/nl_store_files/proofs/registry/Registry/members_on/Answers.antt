use Rattle.std.proofs.Common.{◌∙◌, ◌<◌, ◌≤◌, filter, length, map, sym, ap, subst, arith}
use Rattle.nl_grid.specs.Geometry.{patches_of}
use Rattle.nl_agents.specs.declared.agents.Turtle as living
use Rattle.nl_store_records.specs.Records.{record_at, fields_at}
use Rattle.nl_store_files.specs.Agents.{turtle_at, turtle_serial, Agents}
use Rattle.nl_store_files.specs.Keys.{key_in}
use Rattle.std.proofs.lemmas.Result.{on_ok_weaker}
use Rattle.nl_index.specs.declared.chains.Chain.TheVariants as chain
use Rattle.nl_store_files.specs.Standing.{held}
use Rattle.nl_store_files.specs.Walks.{IsPath}
use Rattle.nl_store_files.proofs.Listed.{chain-path, listed-long, listed-once, listed-short, listed-sorted}
use Rattle.nl_store_files.proofs.Looked.{turtle-number}
use Rattle.nl_store_files.proofs.Members.{chain-once, turtle-members, turtle_of_chain}
use Rattle.nl_grid.specs.Geometry.{patch_at}
use Rattle.std.proofs.Common.{eqb}
use Rattle.nl_store_files.proofs.registry.Registry.members_on.Goals as goal

pub first-first-requires-clause-whole : goal.first-first-requires-clause-whole
first-first-requires-clause-whole g c = c.self.invariant.0.index.whole

pub first-first-requires-clause-chain : goal.first-first-requires-clause-chain
first-first-requires-clause-chain g c = subst (λ (a : Agents). c.args.patch < patches_of a.shape) (sym c.self.view_is) c.requires

pub fill_sorted-requires-clause-path : goal.fill_sorted-requires-clause-path
fill_sorted-requires-clause-path g c =
    let f = c.self.inside in
    let v = c.self.invariant.0 in
    let ks = v.lists.patches c.args.patch in
    let first = c.first-first.ensures (record_at f.records) (held (record_at f.records)) v.lists v.index in
    let path = subst (λ x. IsPath 1 (record_at f.records) x ks) (sym first) (chain-path 1 _ (record_at f.records) _ v.lists.patches c.args.patch v.index.patches) in
    let short : length ks ≤ c.len-most.result = subst (λ m. length ks ≤ m) (sym (c.len-most.ensures ∙ c.self.invariant.1.turtles)) (listed-short turtle_serial (turtle_at (record_at f.records)) (key_in f.turtle_keys) f.turtles_given v.turtles (turtle_of_chain f.chains.shape (chain.Patch c.args.patch)) (record_at f.records) (λ k x e. turtle-number (fields_at (record_at f.records) k) x e) ks (chain-once f.chains f.ends (record_at f.records) (key_in f.turtle_keys) (key_in f.link_keys) f.turtles_given f.links_given c.self.invariant.0 (chain.Patch c.args.patch)) (turtle-members f.chains f.ends (record_at f.records) (key_in f.turtle_keys) (key_in f.link_keys) f.turtles_given f.links_given c.self.invariant.0 (chain.Patch c.args.patch) tt)) in
    record { keys = ks; path = path; short = short; once = listed-once turtle_serial (turtle_at (record_at f.records)) (key_in f.turtle_keys) f.turtles_given v.turtles (turtle_of_chain f.chains.shape (chain.Patch c.args.patch)) (record_at f.records) (λ k x e. turtle-number (fields_at (record_at f.records) k) x e) ks (chain-once f.chains f.ends (record_at f.records) (key_in f.turtle_keys) (key_in f.link_keys) f.turtles_given f.links_given c.self.invariant.0 (chain.Patch c.args.patch)) (turtle-members f.chains f.ends (record_at f.records) (key_in f.turtle_keys) (key_in f.link_keys) f.turtles_given f.links_given c.self.invariant.0 (chain.Patch c.args.patch) tt) }

pub returns-clause-list : goal.returns-clause-list
returns-clause-list g c =
    let f = c.self.inside in
    let v = c.self.invariant.0 in
    let ks = v.lists.patches c.args.patch in
    let first = c.first-first.ensures (record_at f.records) (held (record_at f.records)) v.lists v.index in
    let path = subst (λ x. IsPath 1 (record_at f.records) x ks) (sym first) (chain-path 1 _ (record_at f.records) _ v.lists.patches c.args.patch v.index.patches) in
    let short : length ks ≤ c.len-most.result = subst (λ m. length ks ≤ m) (sym (c.len-most.ensures ∙ c.self.invariant.1.turtles)) (listed-short turtle_serial (turtle_at (record_at f.records)) (key_in f.turtle_keys) f.turtles_given v.turtles (turtle_of_chain f.chains.shape (chain.Patch c.args.patch)) (record_at f.records) (λ k x e. turtle-number (fields_at (record_at f.records) k) x e) ks (chain-once f.chains f.ends (record_at f.records) (key_in f.turtle_keys) (key_in f.link_keys) f.turtles_given f.links_given c.self.invariant.0 (chain.Patch c.args.patch)) (turtle-members f.chains f.ends (record_at f.records) (key_in f.turtle_keys) (key_in f.link_keys) f.turtles_given f.links_given c.self.invariant.0 (chain.Patch c.args.patch) tt)) in
    on_ok_weaker c.fill_sorted.result (λ s. listed-sorted turtle_serial (turtle_at (record_at f.records)) (key_in f.turtle_keys) f.turtles_given v.turtles (turtle_of_chain f.chains.shape (chain.Patch c.args.patch)) (record_at f.records) (λ k x e. turtle-number (fields_at (record_at f.records) k) x e) ks (chain-once f.chains f.ends (record_at f.records) (key_in f.turtle_keys) (key_in f.link_keys) f.turtles_given f.links_given c.self.invariant.0 (chain.Patch c.args.patch)) (turtle-members f.chains f.ends (record_at f.records) (key_in f.turtle_keys) (key_in f.link_keys) f.turtles_given f.links_given c.self.invariant.0 (chain.Patch c.args.patch) tt) c.fill_sorted.new.into s ∙ ap (λ (a : Agents). map (λ (x : living.Turtle). x.serial) (filter (λ (x : living.Turtle). eqb (patch_at a.shape x.at) c.args.patch) a.turtles)) c.self.view_is) (c.fill_sorted.ensures.list ks path short (listed-once turtle_serial (turtle_at (record_at f.records)) (key_in f.turtle_keys) f.turtles_given v.turtles (turtle_of_chain f.chains.shape (chain.Patch c.args.patch)) (record_at f.records) (λ k x e. turtle-number (fields_at (record_at f.records) k) x e) ks (chain-once f.chains f.ends (record_at f.records) (key_in f.turtle_keys) (key_in f.link_keys) f.turtles_given f.links_given c.self.invariant.0 (chain.Patch c.args.patch)) (turtle-members f.chains f.ends (record_at f.records) (key_in f.turtle_keys) (key_in f.link_keys) f.turtles_given f.links_given c.self.invariant.0 (chain.Patch c.args.patch) tt)))

pub returns-clause-reads : goal.returns-clause-reads
returns-clause-reads g c =
    let f = c.self.inside in
    let v = c.self.invariant.0 in
    let ks = v.lists.patches c.args.patch in
    let first = c.first-first.ensures (record_at f.records) (held (record_at f.records)) v.lists v.index in
    let path = subst (λ x. IsPath 1 (record_at f.records) x ks) (sym first) (chain-path 1 _ (record_at f.records) _ v.lists.patches c.args.patch v.index.patches) in
    let short : length ks ≤ c.len-most.result = subst (λ m. length ks ≤ m) (sym (c.len-most.ensures ∙ c.self.invariant.1.turtles)) (listed-short turtle_serial (turtle_at (record_at f.records)) (key_in f.turtle_keys) f.turtles_given v.turtles (turtle_of_chain f.chains.shape (chain.Patch c.args.patch)) (record_at f.records) (λ k x e. turtle-number (fields_at (record_at f.records) k) x e) ks (chain-once f.chains f.ends (record_at f.records) (key_in f.turtle_keys) (key_in f.link_keys) f.turtles_given f.links_given c.self.invariant.0 (chain.Patch c.args.patch)) (turtle-members f.chains f.ends (record_at f.records) (key_in f.turtle_keys) (key_in f.link_keys) f.turtles_given f.links_given c.self.invariant.0 (chain.Patch c.args.patch) tt)) in
    let paid = c.fill_sorted.ensures.reads ks path short in
    let long = listed-long turtle_serial (turtle_at (record_at f.records)) (key_in f.turtle_keys) f.turtles_given v.turtles (turtle_of_chain f.chains.shape (chain.Patch c.args.patch)) (record_at f.records) (λ k x e. turtle-number (fields_at (record_at f.records) k) x e) ks (chain-once f.chains f.ends (record_at f.records) (key_in f.turtle_keys) (key_in f.link_keys) f.turtles_given f.links_given c.self.invariant.0 (chain.Patch c.args.patch)) (turtle-members f.chains f.ends (record_at f.records) (key_in f.turtle_keys) (key_in f.link_keys) f.turtles_given f.links_given c.self.invariant.0 (chain.Patch c.args.patch) tt) in
    let same = ap (λ (a : Agents). length (filter (λ (x : living.Turtle). eqb (patch_at a.shape x.at) c.args.patch) a.turtles)) c.self.view_is in
    omega (arith, paid, long, same)
