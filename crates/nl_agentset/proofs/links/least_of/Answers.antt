use Rattle.std.proofs.Common.{ℕ, List, find, sym, ap, ◌∙◌}
use Rattle.nl_agents.specs.Names.{living_of}
use Rattle.nl_agentset.specs.Links.{is_least}
use Rattle.nl_agentset.proofs.Walking.{found_here, found_later, found_none}
use Rattle.nl_agentset.proofs.links.least_of.Goals as goal

pub returns-then-is_least : goal.returns-then-is_least
returns-then-is_least g c =
    let w = living_of (g.S.Store.world c.args.view.now.store.now).rest in
    let links = c.as_slice-links.result.now in
    sym (ap (λ (ls : List ℕ). find (is_least w ls) ls) (sym c.as_slice-links.ensures.value) ∙ c.loop-link.invariant
    ∙ found_here (is_least w links) links c.loop-link.link-index c.loop-link-test.true (sym c.is_least.ensures ∙ c.if-is_least.true))

pub loop-link-preserved : goal.loop-link-preserved
loop-link-preserved g c =
    let w = living_of (g.S.Store.world c.args.view.now.store.now).rest in
    let links = c.as_slice-links.result.now in
    c.loop-link.invariant ∙ found_later (is_least w links) links c.loop-link.link-index c.loop-link-test.true (sym c.is_least.ensures ∙ c.if-is_least.false)

pub returns : goal.returns
returns g c =
    let w = living_of (g.S.Store.world c.args.view.now.store.now).rest in
    let links = c.as_slice-links.result.now in
    sym (ap (λ (ls : List ℕ). find (is_least w ls) ls) (sym c.as_slice-links.ensures.value) ∙ c.loop-link.invariant ∙ found_none (is_least w links) links c.loop-link.link-index c.loop-link-test.false)
