use Rattle.std.proofs.Common.{◌∙◌, ◌≤◌, length, map, sym, ap, subst, arith}
use Rattle.nl_agents.specs.declared.agents.Turtle as living
use Rattle.nl_store_records.specs.Records.{record_at, fields_at}
use Rattle.nl_store_files.specs.Agents.{turtle_at, turtle_serial, Agents}
use Rattle.nl_store_files.specs.Keys.{key_in}
use Rattle.std.proofs.lemmas.Result.{on_ok_weaker}
use Rattle.nl_index.specs.declared.chains.Chain.TheVariants as chain
use Rattle.nl_store_lists.specs.Rolls.{roll}
use Rattle.nl_store_files.specs.Standing.{held}
use Rattle.nl_store_files.specs.Walks.{IsPath}
use Rattle.nl_store_files.proofs.Listed.{chain-path, filter-whole, listed-long, listed-order, listed-short}
use Rattle.nl_store_files.proofs.Looked.{turtle-number}
use Rattle.nl_store_files.proofs.Members.{chain-once, turtle-members, turtle_of_chain}
use Rattle.nl_store_files.proofs.registry.Registry.turtles.Goals as goal

pub first-first-requires-clause-whole : goal.first-first-requires-clause-whole
first-first-requires-clause-whole g c = c.self.invariant.0.index.whole

pub fill_in_order-requires-clause-path : goal.fill_in_order-requires-clause-path
fill_in_order-requires-clause-path g c =
    let f = c.self.inside in
    let v = c.self.invariant.0 in
    let ks = v.lists.births 0 in
    let first = c.first-first.ensures (record_at f.records) (held (record_at f.records)) v.lists v.index in
    let path = subst (λ x. IsPath 0 (record_at f.records) x ks) (sym first) (chain-path 0 _ (record_at f.records) _ v.lists.births 0 v.index.births) in
    let short : length ks ≤ c.len-most.result = subst (λ m. length ks ≤ m) (sym (c.len-most.ensures ∙ c.self.invariant.1.turtles)) (listed-short turtle_serial (turtle_at (record_at f.records)) (key_in f.turtle_keys) f.turtles_given v.turtles (turtle_of_chain f.chains.shape chain.Turtles) (record_at f.records) (λ k x e. turtle-number (fields_at (record_at f.records) k) x e) ks (chain-once f.chains f.ends (record_at f.records) (key_in f.turtle_keys) (key_in f.link_keys) f.turtles_given f.links_given c.self.invariant.0 chain.Turtles) (turtle-members f.chains f.ends (record_at f.records) (key_in f.turtle_keys) (key_in f.link_keys) f.turtles_given f.links_given c.self.invariant.0 chain.Turtles tt)) in
    record { keys = ks; path = path; short = short; rises = v.index.rising 0 }

pub returns-clause-list : goal.returns-clause-list
returns-clause-list g c =
    let f = c.self.inside in
    let v = c.self.invariant.0 in
    let ks = v.lists.births 0 in
    let first = c.first-first.ensures (record_at f.records) (held (record_at f.records)) v.lists v.index in
    let path = subst (λ x. IsPath 0 (record_at f.records) x ks) (sym first) (chain-path 0 _ (record_at f.records) _ v.lists.births 0 v.index.births) in
    let short : length ks ≤ c.len-most.result = subst (λ m. length ks ≤ m) (sym (c.len-most.ensures ∙ c.self.invariant.1.turtles)) (listed-short turtle_serial (turtle_at (record_at f.records)) (key_in f.turtle_keys) f.turtles_given v.turtles (turtle_of_chain f.chains.shape chain.Turtles) (record_at f.records) (λ k x e. turtle-number (fields_at (record_at f.records) k) x e) ks (chain-once f.chains f.ends (record_at f.records) (key_in f.turtle_keys) (key_in f.link_keys) f.turtles_given f.links_given c.self.invariant.0 chain.Turtles) (turtle-members f.chains f.ends (record_at f.records) (key_in f.turtle_keys) (key_in f.link_keys) f.turtles_given f.links_given c.self.invariant.0 chain.Turtles tt)) in
    on_ok_weaker c.fill_in_order.result (λ e. e ∙ listed-order turtle_serial (turtle_at (record_at f.records)) (key_in f.turtle_keys) f.turtles_given v.turtles (turtle_of_chain f.chains.shape chain.Turtles) (record_at f.records) (λ k x e. turtle-number (fields_at (record_at f.records) k) x e) ks (chain-once f.chains f.ends (record_at f.records) (key_in f.turtle_keys) (key_in f.link_keys) f.turtles_given f.links_given c.self.invariant.0 chain.Turtles) (turtle-members f.chains f.ends (record_at f.records) (key_in f.turtle_keys) (key_in f.link_keys) f.turtles_given f.links_given c.self.invariant.0 chain.Turtles tt) (v.index.rising 0) ∙ ap (map (λ (x : living.Turtle). x.serial)) (filter-whole (roll (turtle_at (record_at f.records)) (key_in f.turtle_keys) f.turtles_given)) ∙ ap (λ (a : Agents). map (λ (x : living.Turtle). x.serial) (a.turtles)) c.self.view_is) (c.fill_in_order.ensures.list ks path short)

pub returns-clause-reads : goal.returns-clause-reads
returns-clause-reads g c =
    let f = c.self.inside in
    let v = c.self.invariant.0 in
    let ks = v.lists.births 0 in
    let first = c.first-first.ensures (record_at f.records) (held (record_at f.records)) v.lists v.index in
    let path = subst (λ x. IsPath 0 (record_at f.records) x ks) (sym first) (chain-path 0 _ (record_at f.records) _ v.lists.births 0 v.index.births) in
    let short : length ks ≤ c.len-most.result = subst (λ m. length ks ≤ m) (sym (c.len-most.ensures ∙ c.self.invariant.1.turtles)) (listed-short turtle_serial (turtle_at (record_at f.records)) (key_in f.turtle_keys) f.turtles_given v.turtles (turtle_of_chain f.chains.shape chain.Turtles) (record_at f.records) (λ k x e. turtle-number (fields_at (record_at f.records) k) x e) ks (chain-once f.chains f.ends (record_at f.records) (key_in f.turtle_keys) (key_in f.link_keys) f.turtles_given f.links_given c.self.invariant.0 chain.Turtles) (turtle-members f.chains f.ends (record_at f.records) (key_in f.turtle_keys) (key_in f.link_keys) f.turtles_given f.links_given c.self.invariant.0 chain.Turtles tt)) in
    let paid = c.fill_in_order.ensures.reads ks path short in
    let long = listed-long turtle_serial (turtle_at (record_at f.records)) (key_in f.turtle_keys) f.turtles_given v.turtles (turtle_of_chain f.chains.shape chain.Turtles) (record_at f.records) (λ k x e. turtle-number (fields_at (record_at f.records) k) x e) ks (chain-once f.chains f.ends (record_at f.records) (key_in f.turtle_keys) (key_in f.link_keys) f.turtles_given f.links_given c.self.invariant.0 chain.Turtles) (turtle-members f.chains f.ends (record_at f.records) (key_in f.turtle_keys) (key_in f.link_keys) f.turtles_given f.links_given c.self.invariant.0 chain.Turtles tt) in
    let whole = ap length (filter-whole (roll (turtle_at (record_at f.records)) (key_in f.turtle_keys) f.turtles_given)) in let same = ap (λ (a : Agents). length (a.turtles)) c.self.view_is in
    omega (arith, paid, long, whole, same)
