-- Both chains of the turtle's links are walked.
use Rattle.std.proofs.Common.{◌≡◌, ◌∙◌, ◌≤◌, ◌++◌, filter, find, length, IsSome, sym, ap, subst, arith}
use Rattle.nl_agents.specs.Changes.{has_end, is_turtle}
use Rattle.nl_store_records.specs.Records.{record_at}
use Rattle.nl_store_files.specs.Agents.{Agents}
use Rattle.nl_store_files.specs.Keys.{key_in}
use Rattle.nl_store_files.specs.Standing.{is_link as is_filed}
use Rattle.nl_store_files.proofs.Chained.{both-long, both-short, first-few, first-path, second-few, second-path}
use Rattle.nl_store_files.proofs.Filed.{turtle-key}
use Rattle.nl_store_files.proofs.registry.Registry.count_links_of.Goals as goal

pub firsts-firsts-requires : goal.firsts-firsts-requires
firsts-firsts-requires g c =
    let f = c.self.inside in
    c.self.invariant.0.entered c.args.turtle
    ∙ turtle-key f.chains f.ends (record_at f.records) f.turtle_keys f.link_keys f.turtles_given f.links_given c.self.invariant.0 c.self.invariant.1 c.args.turtle
    (subst (λ (a : Agents). IsSome (find (is_turtle c.args.turtle) a.turtles)) (sym c.self.view_is) c.requires)

pub length-by_first-requires-clause-path : goal.length-by_first-requires-clause-path
length-by_first-requires-clause-path g c =
    let f = c.self.inside in
    let v = c.self.invariant.0 in
    let at = record_at f.records in
    let many = c.len-most.ensures ∙ c.self.invariant.1.links in
    let ones = v.joined.first c.args.turtle in
    let one = first-path f.chains f.ends at (key_in f.turtle_keys) (key_in f.link_keys) f.turtles_given f.links_given v c.args.turtle _ (c.firsts-firsts.ensures.first at (is_filed at) v.joined v.ended) in
    let few = first-few f.chains f.ends at (key_in f.turtle_keys) (key_in f.link_keys) f.turtles_given f.links_given v c.args.turtle _ many in
    record { keys = ones; path = one; short = few }

pub length-requires-clause-path : goal.length-requires-clause-path
length-requires-clause-path g c =
    let f = c.self.inside in
    let v = c.self.invariant.0 in
    let at = record_at f.records in
    let many = c.len-most.ensures ∙ c.self.invariant.1.links in
    let others = v.joined.second c.args.turtle in
    let two = second-path f.chains f.ends at (key_in f.turtle_keys) (key_in f.link_keys) f.turtles_given f.links_given v c.args.turtle _ (c.firsts-firsts.ensures.second at (is_filed at) v.joined v.ended) in
    let few_2 = second-few f.chains f.ends at (key_in f.turtle_keys) (key_in f.link_keys) f.turtles_given f.links_given v c.args.turtle _ many in
    record { keys = others; path = two; short = few_2 }

pub overflow_add-result : goal.overflow_add-result
overflow_add-result g c =
    let f = c.self.inside in
    let v = c.self.invariant.0 in
    let at = record_at f.records in
    let many = c.len-most.ensures ∙ c.self.invariant.1.links in
    let ones = v.joined.first c.args.turtle in
    let one = first-path f.chains f.ends at (key_in f.turtle_keys) (key_in f.link_keys) f.turtles_given f.links_given v c.args.turtle _ (c.firsts-firsts.ensures.first at (is_filed at) v.joined v.ended) in
    let few = first-few f.chains f.ends at (key_in f.turtle_keys) (key_in f.link_keys) f.turtles_given f.links_given v c.args.turtle _ many in
    let others = v.joined.second c.args.turtle in
    let two = second-path f.chains f.ends at (key_in f.turtle_keys) (key_in f.link_keys) f.turtles_given f.links_given v c.args.turtle _ (c.firsts-firsts.ensures.second at (is_filed at) v.joined v.ended) in
    let few_2 = second-few f.chains f.ends at (key_in f.turtle_keys) (key_in f.link_keys) f.turtles_given f.links_given v c.args.turtle _ many in
    let long = both-long f.chains f.ends at (key_in f.turtle_keys) (key_in f.link_keys) f.turtles_given f.links_given v c.args.turtle in
    let short = both-short f.chains f.ends at (key_in f.turtle_keys) (key_in f.link_keys) f.turtles_given f.links_given v c.args.turtle in
    omega (arith, short, many, long, c.length-by_first.ensures.many ones one few, c.length.ensures.many others two few_2)

pub returns-clause-many : goal.returns-clause-many
returns-clause-many g c =
    let f = c.self.inside in
    let v = c.self.invariant.0 in
    let at = record_at f.records in
    let many = c.len-most.ensures ∙ c.self.invariant.1.links in
    let ones = v.joined.first c.args.turtle in
    let one = first-path f.chains f.ends at (key_in f.turtle_keys) (key_in f.link_keys) f.turtles_given f.links_given v c.args.turtle _ (c.firsts-firsts.ensures.first at (is_filed at) v.joined v.ended) in
    let few = first-few f.chains f.ends at (key_in f.turtle_keys) (key_in f.link_keys) f.turtles_given f.links_given v c.args.turtle _ many in
    let others = v.joined.second c.args.turtle in
    let two = second-path f.chains f.ends at (key_in f.turtle_keys) (key_in f.link_keys) f.turtles_given f.links_given v c.args.turtle _ (c.firsts-firsts.ensures.second at (is_filed at) v.joined v.ended) in
    let few_2 = second-few f.chains f.ends at (key_in f.turtle_keys) (key_in f.link_keys) f.turtles_given f.links_given v c.args.turtle _ many in
    let long = both-long f.chains f.ends at (key_in f.turtle_keys) (key_in f.link_keys) f.turtles_given f.links_given v c.args.turtle in
    let same = ap (λ (a : Agents). length (filter (has_end c.args.turtle) a.links)) c.self.view_is in
    omega (arith, long, same, c.length-by_first.ensures.many ones one few, c.length.ensures.many others two few_2)

pub returns-clause-reads : goal.returns-clause-reads
returns-clause-reads g c =
    let f = c.self.inside in
    let v = c.self.invariant.0 in
    let at = record_at f.records in
    let many = c.len-most.ensures ∙ c.self.invariant.1.links in
    let ones = v.joined.first c.args.turtle in
    let one = first-path f.chains f.ends at (key_in f.turtle_keys) (key_in f.link_keys) f.turtles_given f.links_given v c.args.turtle _ (c.firsts-firsts.ensures.first at (is_filed at) v.joined v.ended) in
    let few = first-few f.chains f.ends at (key_in f.turtle_keys) (key_in f.link_keys) f.turtles_given f.links_given v c.args.turtle _ many in
    let others = v.joined.second c.args.turtle in
    let two = second-path f.chains f.ends at (key_in f.turtle_keys) (key_in f.link_keys) f.turtles_given f.links_given v c.args.turtle _ (c.firsts-firsts.ensures.second at (is_filed at) v.joined v.ended) in
    let few_2 = second-few f.chains f.ends at (key_in f.turtle_keys) (key_in f.link_keys) f.turtles_given f.links_given v c.args.turtle _ many in
    let long = both-long f.chains f.ends at (key_in f.turtle_keys) (key_in f.link_keys) f.turtles_given f.links_given v c.args.turtle in
    let same = ap (λ (a : Agents). length (filter (has_end c.args.turtle) a.links)) c.self.view_is in
    omega (arith, long, same, c.length-by_first.ensures.reads ones one few, c.length.ensures.reads others two few_2)
