use Rattle.std.proofs.Common.{ℕ, List, All, find, ap, sym, subst, ◌∙◌}
use Rattle.nl_agents.specs.Changes.{link_of, has_end, LinkLives}
use Rattle.nl_agentset_query.specs.Agents.{link_passes}
use Rattle.nl_agentset.specs.Sets.{is_between}
use Rattle.nl_agentset.proofs.Found.{links_live}
use Rattle.nl_agentset.proofs.Linked.{between_is}
use Rattle.nl_agentset.proofs.lookups.link_between.Goals as goal

pub first_between-requires : goal.first_between-requires
first_between-requires g c =
    let w = g.S.Store.world c.args.store.now in
    subst (λ (zs : List ℕ). All (λ z. LinkLives z w) zs) (sym c.in_ok-links_of.ensures.list) (links_live w (has_end c.in-Some-Some.first) c.shape-stands.ensures.stands)

pub returns-clause-link : goal.returns-clause-link
returns-clause-link g c =
    let w = g.S.Store.world c.args.store.now in
    let first = c.in-Some-Some.first in
    let second = c.in-Some-Some.second in
    c.first_between.ensures ∙ ap (find (λ z. link_passes (is_between c.args.breed first second) (link_of z w.rest))) c.in_ok-links_of.ensures.list
    ∙ between_is w c.args.breed _ _ first second c.shape-stands.ensures.stands
    (sym c.in-Some-Some.is-0 ∙ c.turtle_named.ensures.turtle) (sym c.in-Some-Some.is-1 ∙ c.turtle_named-2.ensures.turtle)
