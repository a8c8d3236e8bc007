use Rattle.std.proofs.Common.{ℕ, Bool, find, sym, ap, ◌∙◌}
use Rattle.nl_agents.specs.Changes.{link_of}
use Rattle.nl_agentset_query.specs.Agents.{link_passes}
use Rattle.nl_agentset.specs.Sets.{is_between}
use Rattle.nl_agentset.proofs.Walking.{found_here, found_later, found_none}
use Rattle.nl_agentset.proofs.lookups.first_between.Goals as goal

pub returns-then-is_between : goal.returns-then-is_between
returns-then-is_between g c =
    let r = (g.S.Store.world c.args.store.now).rest in
    let test : ℕ → Bool = λ z. link_passes (is_between c.args.breed c.args.first c.args.second) (link_of z r) in
    sym (ap (find test) (sym c.as_slice-numbers.ensures.value) ∙ c.loop-link.invariant ∙ found_here test c.as_slice-numbers.result.now c.loop-link.link-index c.loop-link-test.true (sym c.is_between.ensures ∙ c.if-is_between.true))

pub loop-link-preserved : goal.loop-link-preserved
loop-link-preserved g c =
    let r = (g.S.Store.world c.args.store.now).rest in
    let test : ℕ → Bool = λ z. link_passes (is_between c.args.breed c.args.first c.args.second) (link_of z r) in
    c.loop-link.invariant ∙ found_later test c.as_slice-numbers.result.now c.loop-link.link-index c.loop-link-test.true (sym c.is_between.ensures ∙ c.if-is_between.false)

pub returns : goal.returns
returns g c =
    let r = (g.S.Store.world c.args.store.now).rest in
    let test : ℕ → Bool = λ z. link_passes (is_between c.args.breed c.args.first c.args.second) (link_of z r) in
    sym (ap (find test) (sym c.as_slice-numbers.ensures.value) ∙ c.loop-link.invariant ∙ found_none test c.as_slice-numbers.result.now c.loop-link.link-index c.loop-link-test.false)
