use Rattle.std.proofs.Common.{◌≡◌, ℕ, List, All, filter, ap, sym, subst, ◌∙◌}
use Rattle.std.proofs.lemmas.Result.{IfOk-weaker}
use Rattle.nl_value.specs.Nouns.{Serials}
use Rattle.nl_agents.specs.Changes.{link_of, has_end, LinkLives}
use Rattle.nl_agentset.specs.Links.{is_link_at, links_at}
use Rattle.nl_agentset_query.specs.Agents.{link_passes}
use Rattle.nl_agentset.proofs.Found.{links_live}
use Rattle.nl_agentset.proofs.Linked.{links_are}
use Rattle.nl_agentset.proofs.links.links_at.Goals as goal

pub links_kept-requires : goal.links_kept-requires
links_kept-requires g c =
    let w = g.S.Store.world c.args.store.now in
    subst (λ (zs : List ℕ). All (λ z. LinkLives z w) zs) (sym c.in_ok-links_of.ensures.list) (links_live w (has_end c.args.turtle) c.shape-stands.ensures.stands)

pub returns-clause-links : goal.returns-clause-links
returns-clause-links g c =
    let w = g.S.Store.world c.args.store.now in
    let kept : List ℕ → List ℕ = λ zs. filter (λ z. link_passes (is_link_at c.args.side c.args.breed c.args.turtle) (link_of z w.rest)) zs in
    IfOk-weaker c.links_kept.result (λ (links : Serials). links ≡ kept _) (λ (links : Serials). links ≡ links_at w.rest c.args.side c.args.breed c.args.turtle)
    (λ links is. is ∙ ap kept c.in_ok-links_of.ensures.list ∙ links_are w c.args.side c.args.breed c.args.turtle c.shape-stands.ensures.stands)
    c.links_kept.ensures

pub returns-clause-live : goal.returns-clause-live
returns-clause-live g c =
    let w = g.S.Store.world c.args.store.now in
    let kept : List ℕ → List ℕ = λ zs. filter (λ z. link_passes (is_link_at c.args.side c.args.breed c.args.turtle) (link_of z w.rest)) zs in
    IfOk-weaker c.links_kept.result (λ (links : Serials). links ≡ kept _) (λ (links : Serials). All (λ z. LinkLives z w) links)
    (λ links is.
    subst (λ (zs : List ℕ). All (λ z. LinkLives z w) zs)
    (sym (is ∙ ap kept c.in_ok-links_of.ensures.list ∙ links_are w c.args.side c.args.breed c.args.turtle c.shape-stands.ensures.stands))
    (links_live w (is_link_at c.args.side c.args.breed c.args.turtle) c.shape-stands.ensures.stands))
    c.links_kept.ensures
