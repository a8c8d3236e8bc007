use Rattle.std.proofs.Common.{◌≡◌, ◌==◌, ℕ, List, All, filter, ap, sym, subst, ◌∙◌}
use Rattle.std.proofs.lemmas.Result.{IfOk-weaker}
use Rattle.nl_value.specs.Nouns.{Serials}
use Rattle.nl_agents.specs.Changes.{link_of, LinkLives}
use Rattle.nl_agents.specs.Members.{links_where}
use Rattle.nl_agentset.specs.Links.{is_link_to, other_end_of}
use Rattle.nl_agentset_query.specs.Agents.{link_passes}
use Rattle.nl_agentset.proofs.Found.{links_live}
use Rattle.nl_agentset.proofs.Linked.{links_lead_to}
use Rattle.nl_agentset.proofs.links.links_to.Goals as goal

pub returns-clause-links : goal.returns-clause-links
returns-clause-links g c =
    let w = g.S.Store.world c.args.store.now in
    let kept : List ℕ → List ℕ = λ zs. filter (λ z. link_passes (λ l. other_end_of c.args.turtle l == c.args.other) (link_of z w.rest)) zs in
    IfOk-weaker c.links_to_other.result (λ (links : Serials). links ≡ kept _) (λ (links : Serials). links ≡ links_where (is_link_to c.args.side c.args.breed c.args.turtle c.args.other) w.rest)
    (λ links is. is ∙ ap kept c.in_ok-links.ensures.links ∙ links_lead_to w c.args.side c.args.breed c.args.turtle c.args.other c.shape-stands.ensures.stands)
    c.links_to_other.ensures

pub returns-clause-live : goal.returns-clause-live
returns-clause-live g c =
    let w = g.S.Store.world c.args.store.now in
    let kept : List ℕ → List ℕ = λ zs. filter (λ z. link_passes (λ l. other_end_of c.args.turtle l == c.args.other) (link_of z w.rest)) zs in
    IfOk-weaker c.links_to_other.result (λ (links : Serials). links ≡ kept _) (λ (links : Serials). All (λ z. LinkLives z w) links)
    (λ links is.
    subst (λ (zs : List ℕ). All (λ z. LinkLives z w) zs)
    (sym (is ∙ ap kept c.in_ok-links.ensures.links ∙ links_lead_to w c.args.side c.args.breed c.args.turtle c.args.other c.shape-stands.ensures.stands))
    (links_live w (is_link_to c.args.side c.args.breed c.args.turtle c.args.other) c.shape-stands.ensures.stands))
    c.links_to_other.ensures
