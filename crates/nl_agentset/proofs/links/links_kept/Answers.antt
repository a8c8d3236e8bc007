use Rattle.std.proofs.Common.{List, ℕ, Bool, filter, ap, sym, subst, ◌∙◌, arith}
use Rattle.std.specs.List.Sorted.{IsStrictlyIncreasing}
use Rattle.std.proofs.lemmas.List.{take_all}
use Rattle.std.proofs.lemmas.List.Kept.{IsStrictlyIncreasing-filter}
use Rattle.nl_agents.specs.Changes.{link_of}
use Rattle.nl_agentset_query.specs.Agents.{link_passes}
use Rattle.nl_agentset.specs.Links.{is_link_at}
use Rattle.nl_agentset.proofs.links.links_kept.Goals as goal

pub of_vec-requires : goal.of_vec-requires
of_vec-requires g c =
    let Ascends : List ℕ → Type 0 = λ l. IsStrictlyIncreasing l in
    let r = (g.S.Store.world c.args.store.now).rest in
    let kept : ℕ → Bool = λ link. link_passes (is_link_at c.args.side c.args.breed c.args.turtle) (link_of link r) in
    let all = take_all c.loop-link.link-index c.as_slice-links.result.now (omega arith) ∙ c.as_slice-links.ensures.value in
    subst Ascends (sym (c.loop-link.invariant ∙ ap (filter kept) all)) (IsStrictlyIncreasing-filter kept c.args.list.now c.as_slice-links.ensures.ascending)

pub returns : goal.returns
returns g c =
    let r = (g.S.Store.world c.args.store.now).rest in
    let kept : ℕ → Bool = λ link. link_passes (is_link_at c.args.side c.args.breed c.args.turtle) (link_of link r) in
    let all = take_all c.loop-link.link-index c.as_slice-links.result.now (omega arith) ∙ c.as_slice-links.ensures.value in
    c.of_vec.ensures ∙ c.loop-link.invariant ∙ ap (filter kept) all
