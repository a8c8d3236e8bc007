use Rattle.std.proofs.Common.{◌∙◌, ◌≤◌, true, length, map, sym, ap, subst, arith}
use Rattle.nl_agents.specs.declared.agents.Link as tie
use Rattle.nl_store_records.specs.Records.{record_at, fields_at}
use Rattle.nl_store_files.specs.Agents.{link_at, link_serial, Agents}
use Rattle.nl_store_files.specs.Keys.{key_in}
use Rattle.std.proofs.lemmas.Result.{on_ok_weaker}
use Rattle.nl_index.specs.declared.chains.Chain.TheVariants as chain
use Rattle.nl_store_lists.specs.Rolls.{roll}
use Rattle.nl_store_files.specs.Standing.{held}
use Rattle.nl_store_files.specs.Walks.{IsPath}
use Rattle.nl_store_files.proofs.Listed.{chain-path, filter-whole, listed-long, listed-order, listed-short}
use Rattle.nl_store_files.proofs.Looked.{link-number}
use Rattle.nl_store_files.proofs.Members.{chain-once, link-members}
use Rattle.nl_store_files.proofs.registry.Registry.links.Goals as goal

pub first-first-requires-clause-whole : goal.first-first-requires-clause-whole
first-first-requires-clause-whole g c = c.self.invariant.0.index.whole

pub fill_in_order-requires-clause-path : goal.fill_in_order-requires-clause-path
fill_in_order-requires-clause-path g c =
    let f = c.self.inside in
    let v = c.self.invariant.0 in
    let ks = v.lists.births 1 in
    let first = c.first-first.ensures (record_at f.records) (held (record_at f.records)) v.lists v.index in
    let path = subst (λ x. IsPath 0 (record_at f.records) x ks) (sym first) (chain-path 0 _ (record_at f.records) _ v.lists.births 1 v.index.births) in
    let short : length ks ≤ c.len-most.result = subst (λ m. length ks ≤ m) (sym (c.len-most.ensures ∙ c.self.invariant.1.links)) (listed-short link_serial (link_at (record_at f.records)) (key_in f.link_keys) f.links_given v.links (λ (l : tie.Link). true) (record_at f.records) (λ k x e. link-number (fields_at (record_at f.records) k) x e) ks (chain-once f.chains f.ends (record_at f.records) (key_in f.turtle_keys) (key_in f.link_keys) f.turtles_given f.links_given c.self.invariant.0 chain.Links) (link-members f.chains f.ends (record_at f.records) (key_in f.turtle_keys) (key_in f.link_keys) f.turtles_given f.links_given c.self.invariant.0)) in
    record { keys = ks; path = path; short = short; rises = v.index.rising 1 }

pub returns-clause-list : goal.returns-clause-list
returns-clause-list g c =
    let f = c.self.inside in
    let v = c.self.invariant.0 in
    let ks = v.lists.births 1 in
    let first = c.first-first.ensures (record_at f.records) (held (record_at f.records)) v.lists v.index in
    let path = subst (λ x. IsPath 0 (record_at f.records) x ks) (sym first) (chain-path 0 _ (record_at f.records) _ v.lists.births 1 v.index.births) in
    let short : length ks ≤ c.len-most.result = subst (λ m. length ks ≤ m) (sym (c.len-most.ensures ∙ c.self.invariant.1.links)) (listed-short link_serial (link_at (record_at f.records)) (key_in f.link_keys) f.links_given v.links (λ (l : tie.Link). true) (record_at f.records) (λ k x e. link-number (fields_at (record_at f.records) k) x e) ks (chain-once f.chains f.ends (record_at f.records) (key_in f.turtle_keys) (key_in f.link_keys) f.turtles_given f.links_given c.self.invariant.0 chain.Links) (link-members f.chains f.ends (record_at f.records) (key_in f.turtle_keys) (key_in f.link_keys) f.turtles_given f.links_given c.self.invariant.0)) in
    on_ok_weaker c.fill_in_order.result (λ e. e ∙ listed-order link_serial (link_at (record_at f.records)) (key_in f.link_keys) f.links_given v.links (λ (l : tie.Link). true) (record_at f.records) (λ k x e. link-number (fields_at (record_at f.records) k) x e) ks (chain-once f.chains f.ends (record_at f.records) (key_in f.turtle_keys) (key_in f.link_keys) f.turtles_given f.links_given c.self.invariant.0 chain.Links) (link-members f.chains f.ends (record_at f.records) (key_in f.turtle_keys) (key_in f.link_keys) f.turtles_given f.links_given c.self.invariant.0) (v.index.rising 1) ∙ ap (map (λ (x : tie.Link). x.serial)) (filter-whole (roll (link_at (record_at f.records)) (key_in f.link_keys) f.links_given)) ∙ ap (λ (a : Agents). map (λ (x : tie.Link). x.serial) (a.links)) c.self.view_is) (c.fill_in_order.ensures.list ks path short)

pub returns-clause-reads : goal.returns-clause-reads
returns-clause-reads g c =
    let f = c.self.inside in
    let v = c.self.invariant.0 in
    let ks = v.lists.births 1 in
    let first = c.first-first.ensures (record_at f.records) (held (record_at f.records)) v.lists v.index in
    let path = subst (λ x. IsPath 0 (record_at f.records) x ks) (sym first) (chain-path 0 _ (record_at f.records) _ v.lists.births 1 v.index.births) in
    let short : length ks ≤ c.len-most.result = subst (λ m. length ks ≤ m) (sym (c.len-most.ensures ∙ c.self.invariant.1.links)) (listed-short link_serial (link_at (record_at f.records)) (key_in f.link_keys) f.links_given v.links (λ (l : tie.Link). true) (record_at f.records) (λ k x e. link-number (fields_at (record_at f.records) k) x e) ks (chain-once f.chains f.ends (record_at f.records) (key_in f.turtle_keys) (key_in f.link_keys) f.turtles_given f.links_given c.self.invariant.0 chain.Links) (link-members f.chains f.ends (record_at f.records) (key_in f.turtle_keys) (key_in f.link_keys) f.turtles_given f.links_given c.self.invariant.0)) in
    let paid = c.fill_in_order.ensures.reads ks path short in
    let long = listed-long link_serial (link_at (record_at f.records)) (key_in f.link_keys) f.links_given v.links (λ (l : tie.Link). true) (record_at f.records) (λ k x e. link-number (fields_at (record_at f.records) k) x e) ks (chain-once f.chains f.ends (record_at f.records) (key_in f.turtle_keys) (key_in f.link_keys) f.turtles_given f.links_given c.self.invariant.0 chain.Links) (link-members f.chains f.ends (record_at f.records) (key_in f.turtle_keys) (key_in f.link_keys) f.turtles_given f.links_given c.self.invariant.0) in
    let whole = ap length (filter-whole (roll (link_at (record_at f.records)) (key_in f.link_keys) f.links_given)) in let same = ap (λ (a : Agents). length (a.links)) c.self.view_is in
    omega (arith, paid, long, whole, same)
