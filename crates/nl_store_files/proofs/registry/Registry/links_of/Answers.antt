use Rattle.std.proofs.Common.{◌∙◌, ◌≤◌, ◌++◌, filter, find, length, map, IsSome, sym, ap, subst, arith}
use Rattle.nl_agents.specs.Changes.{has_end, is_turtle}
use Rattle.nl_agents.specs.declared.agents.Link as tie
use Rattle.nl_store_records.specs.Records.{record_at, fields_at}
use Rattle.nl_store_files.specs.Agents.{link_at, link_serial, Agents}
use Rattle.nl_store_files.specs.Keys.{key_in}
use Rattle.std.proofs.lemmas.Result.{on_ok_weaker}
use Rattle.nl_store_files.specs.Standing.{is_link as is_filed}
use Rattle.nl_store_files.specs.Walks.{IsPath}
use Rattle.nl_store_files.proofs.Filed.{turtle-key}
use Rattle.nl_store_files.proofs.Joined.{both-members, both-once}
use Rattle.nl_store_files.proofs.Listed.{chain-path, listed-long, listed-once, listed-short, listed-sorted}
use Rattle.nl_store_files.proofs.Looked.{link-number}
use Rattle.nl_store_files.proofs.Members.{begins_with, ends_with, first-members, first-once, second-members, second-once}
use Rattle.nl_store_files.proofs.registry.Registry.links_of.Goals as goal

pub firsts-firsts-requires : goal.firsts-firsts-requires
firsts-firsts-requires g c =
    let f = c.self.inside in
    c.self.invariant.0.entered c.args.turtle ∙ turtle-key f.chains f.ends (record_at f.records) f.turtle_keys f.link_keys f.turtles_given f.links_given c.self.invariant.0 c.self.invariant.1 c.args.turtle (subst (λ (a : Agents). IsSome (find (is_turtle c.args.turtle) a.turtles)) (sym c.self.view_is) c.requires)

pub fill_both-requires : goal.fill_both-requires
fill_both-requires g c =
    let f = c.self.inside in
    let v = c.self.invariant.0 in
    let ones = v.joined.first c.args.turtle in
    let others = v.joined.second c.args.turtle in
    let one = subst (λ x. IsPath 3 (record_at f.records) x ones) (sym (c.firsts-firsts.ensures.first (record_at f.records) (is_filed (record_at f.records)) v.joined v.ended)) (chain-path 3 _ (record_at f.records) _ v.joined.first c.args.turtle v.ended.first) in
    let two = subst (λ x. IsPath 4 (record_at f.records) x others) (sym (c.firsts-firsts.ensures.second (record_at f.records) (is_filed (record_at f.records)) v.joined v.ended)) (chain-path 4 _ (record_at f.records) _ v.joined.second c.args.turtle v.ended.second) in
    let short : length ones ≤ c.len-most.result = subst (λ m. length ones ≤ m) (sym (c.len-most.ensures ∙ c.self.invariant.1.links)) (listed-short link_serial (link_at (record_at f.records)) (key_in f.link_keys) f.links_given v.links (begins_with c.args.turtle) (record_at f.records) (λ k x e. link-number (fields_at (record_at f.records) k) x e) (ones) (first-once f.chains f.ends (record_at f.records) (key_in f.turtle_keys) (key_in f.link_keys) f.turtles_given f.links_given c.self.invariant.0 c.args.turtle) (first-members f.chains f.ends (record_at f.records) (key_in f.turtle_keys) (key_in f.link_keys) f.turtles_given f.links_given c.self.invariant.0 c.args.turtle)) in
    let short_2 : length others ≤ c.len-most.result = subst (λ m. length others ≤ m) (sym (c.len-most.ensures ∙ c.self.invariant.1.links)) (listed-short link_serial (link_at (record_at f.records)) (key_in f.link_keys) f.links_given v.links (ends_with c.args.turtle) (record_at f.records) (λ k x e. link-number (fields_at (record_at f.records) k) x e) (others) (second-once f.chains f.ends (record_at f.records) (key_in f.turtle_keys) (key_in f.link_keys) f.turtles_given f.links_given c.self.invariant.0 c.args.turtle) (second-members f.chains f.ends (record_at f.records) (key_in f.turtle_keys) (key_in f.link_keys) f.turtles_given f.links_given c.self.invariant.0 c.args.turtle)) in
    record { ones = ones; others = others; path = one; path_2 = two; short = short; short_2 = short_2; once = listed-once link_serial (link_at (record_at f.records)) (key_in f.link_keys) f.links_given v.links (has_end c.args.turtle) (record_at f.records) (λ k x e. link-number (fields_at (record_at f.records) k) x e) (ones ++ others) (both-once f.chains f.ends (record_at f.records) (key_in f.turtle_keys) (key_in f.link_keys) f.turtles_given f.links_given c.self.invariant.0 c.args.turtle) (both-members f.chains f.ends (record_at f.records) (key_in f.turtle_keys) (key_in f.link_keys) f.turtles_given f.links_given c.self.invariant.0 c.args.turtle) }

pub returns-clause-list : goal.returns-clause-list
returns-clause-list g c =
    let f = c.self.inside in
    let v = c.self.invariant.0 in
    let ones = v.joined.first c.args.turtle in
    let others = v.joined.second c.args.turtle in
    let one = subst (λ x. IsPath 3 (record_at f.records) x ones) (sym (c.firsts-firsts.ensures.first (record_at f.records) (is_filed (record_at f.records)) v.joined v.ended)) (chain-path 3 _ (record_at f.records) _ v.joined.first c.args.turtle v.ended.first) in
    let two = subst (λ x. IsPath 4 (record_at f.records) x others) (sym (c.firsts-firsts.ensures.second (record_at f.records) (is_filed (record_at f.records)) v.joined v.ended)) (chain-path 4 _ (record_at f.records) _ v.joined.second c.args.turtle v.ended.second) in
    let short : length ones ≤ c.len-most.result = subst (λ m. length ones ≤ m) (sym (c.len-most.ensures ∙ c.self.invariant.1.links)) (listed-short link_serial (link_at (record_at f.records)) (key_in f.link_keys) f.links_given v.links (begins_with c.args.turtle) (record_at f.records) (λ k x e. link-number (fields_at (record_at f.records) k) x e) (ones) (first-once f.chains f.ends (record_at f.records) (key_in f.turtle_keys) (key_in f.link_keys) f.turtles_given f.links_given c.self.invariant.0 c.args.turtle) (first-members f.chains f.ends (record_at f.records) (key_in f.turtle_keys) (key_in f.link_keys) f.turtles_given f.links_given c.self.invariant.0 c.args.turtle)) in
    let short_2 : length others ≤ c.len-most.result = subst (λ m. length others ≤ m) (sym (c.len-most.ensures ∙ c.self.invariant.1.links)) (listed-short link_serial (link_at (record_at f.records)) (key_in f.link_keys) f.links_given v.links (ends_with c.args.turtle) (record_at f.records) (λ k x e. link-number (fields_at (record_at f.records) k) x e) (others) (second-once f.chains f.ends (record_at f.records) (key_in f.turtle_keys) (key_in f.link_keys) f.turtles_given f.links_given c.self.invariant.0 c.args.turtle) (second-members f.chains f.ends (record_at f.records) (key_in f.turtle_keys) (key_in f.link_keys) f.turtles_given f.links_given c.self.invariant.0 c.args.turtle)) in
    on_ok_weaker c.fill_both.result (λ s. listed-sorted link_serial (link_at (record_at f.records)) (key_in f.link_keys) f.links_given v.links (has_end c.args.turtle) (record_at f.records) (λ k x e. link-number (fields_at (record_at f.records) k) x e) (ones ++ others) (both-once f.chains f.ends (record_at f.records) (key_in f.turtle_keys) (key_in f.link_keys) f.turtles_given f.links_given c.self.invariant.0 c.args.turtle) (both-members f.chains f.ends (record_at f.records) (key_in f.turtle_keys) (key_in f.link_keys) f.turtles_given f.links_given c.self.invariant.0 c.args.turtle) c.fill_both.new.into s ∙ ap (λ (a : Agents). map (λ (x : tie.Link). x.serial) (filter (has_end c.args.turtle) a.links)) c.self.view_is) (c.fill_both.ensures.list ones others one two short short_2 (listed-once link_serial (link_at (record_at f.records)) (key_in f.link_keys) f.links_given v.links (has_end c.args.turtle) (record_at f.records) (λ k x e. link-number (fields_at (record_at f.records) k) x e) (ones ++ others) (both-once f.chains f.ends (record_at f.records) (key_in f.turtle_keys) (key_in f.link_keys) f.turtles_given f.links_given c.self.invariant.0 c.args.turtle) (both-members f.chains f.ends (record_at f.records) (key_in f.turtle_keys) (key_in f.link_keys) f.turtles_given f.links_given c.self.invariant.0 c.args.turtle)))

pub returns-clause-reads : goal.returns-clause-reads
returns-clause-reads g c =
    let f = c.self.inside in
    let v = c.self.invariant.0 in
    let ones = v.joined.first c.args.turtle in
    let others = v.joined.second c.args.turtle in
    let one = subst (λ x. IsPath 3 (record_at f.records) x ones) (sym (c.firsts-firsts.ensures.first (record_at f.records) (is_filed (record_at f.records)) v.joined v.ended)) (chain-path 3 _ (record_at f.records) _ v.joined.first c.args.turtle v.ended.first) in
    let two = subst (λ x. IsPath 4 (record_at f.records) x others) (sym (c.firsts-firsts.ensures.second (record_at f.records) (is_filed (record_at f.records)) v.joined v.ended)) (chain-path 4 _ (record_at f.records) _ v.joined.second c.args.turtle v.ended.second) in
    let short : length ones ≤ c.len-most.result = subst (λ m. length ones ≤ m) (sym (c.len-most.ensures ∙ c.self.invariant.1.links)) (listed-short link_serial (link_at (record_at f.records)) (key_in f.link_keys) f.links_given v.links (begins_with c.args.turtle) (record_at f.records) (λ k x e. link-number (fields_at (record_at f.records) k) x e) (ones) (first-once f.chains f.ends (record_at f.records) (key_in f.turtle_keys) (key_in f.link_keys) f.turtles_given f.links_given c.self.invariant.0 c.args.turtle) (first-members f.chains f.ends (record_at f.records) (key_in f.turtle_keys) (key_in f.link_keys) f.turtles_given f.links_given c.self.invariant.0 c.args.turtle)) in
    let short_2 : length others ≤ c.len-most.result = subst (λ m. length others ≤ m) (sym (c.len-most.ensures ∙ c.self.invariant.1.links)) (listed-short link_serial (link_at (record_at f.records)) (key_in f.link_keys) f.links_given v.links (ends_with c.args.turtle) (record_at f.records) (λ k x e. link-number (fields_at (record_at f.records) k) x e) (others) (second-once f.chains f.ends (record_at f.records) (key_in f.turtle_keys) (key_in f.link_keys) f.turtles_given f.links_given c.self.invariant.0 c.args.turtle) (second-members f.chains f.ends (record_at f.records) (key_in f.turtle_keys) (key_in f.link_keys) f.turtles_given f.links_given c.self.invariant.0 c.args.turtle)) in
    let paid = c.fill_both.ensures.reads ones others one two short short_2 in
    let long = listed-long link_serial (link_at (record_at f.records)) (key_in f.link_keys) f.links_given v.links (has_end c.args.turtle) (record_at f.records) (λ k x e. link-number (fields_at (record_at f.records) k) x e) (ones ++ others) (both-once f.chains f.ends (record_at f.records) (key_in f.turtle_keys) (key_in f.link_keys) f.turtles_given f.links_given c.self.invariant.0 c.args.turtle) (both-members f.chains f.ends (record_at f.records) (key_in f.turtle_keys) (key_in f.link_keys) f.turtles_given f.links_given c.self.invariant.0 c.args.turtle) in
    let same = ap (λ (a : Agents). length (filter (has_end c.args.turtle) a.links)) c.self.view_is in
    omega (arith, paid, long, same)
