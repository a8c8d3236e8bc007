use Rattle.std.proofs.Common.{◌<◌, List, ℕ, filter, length, get_or, ap, sym, subst, ◌∙◌, arith}
use Rattle.std.specs.List.Sorted.{IsStrictlyIncreasing}
use Rattle.std.proofs.lemmas.List.{take_all}
use Rattle.std.proofs.lemmas.List.Kept.{IsStrictlyIncreasing-filter}
use Rattle.nl_agents.specs.Changes.{link_of, LinkLives}
use Rattle.nl_agents.specs.inner.Views.{link_is_of}
use Rattle.nl_agents.proofs.LivingMembers.{each_link_lives, links_bred}
use Rattle.nl_agents.proofs.view.links_of_breed.Goals as goal

pub is_link_of-requires : goal.is_link_of-requires
is_link_of-requires g c =
    let w = g.S.Store.world c.args.store.now in
    let i = c.loop-number.number-index in
    let Lives : List ℕ → Type 0 = λ l. i < length l → LinkLives (get_or l i 0) w in
    let all = c.as_slice-numbers.ensures.value ∙ c.requires in
    subst Lives (sym all) (each_link_lives w i 0) (omega arith)

pub of_vec-requires : goal.of_vec-requires
of_vec-requires g c =
    let Ascends : List ℕ → Type 0 = λ l. IsStrictlyIncreasing l in
    let is_bred : ℕ → _ = λ link. link_is_of c.args.breed (link_of link (g.S.Store.world c.args.store.now).rest) in
    let all = take_all c.loop-number.number-index c.as_slice-numbers.result.now (omega arith) ∙ c.as_slice-numbers.ensures.value in
    subst Ascends (sym (c.loop-number.invariant ∙ ap (filter is_bred) all)) (IsStrictlyIncreasing-filter is_bred c.args.all.now c.as_slice-numbers.ensures.ascending)

pub returns : goal.returns
returns g c =
    let w = g.S.Store.world c.args.store.now in
    let is_bred : ℕ → _ = λ link. link_is_of c.args.breed (link_of link w.rest) in
    let all = take_all c.loop-number.number-index c.as_slice-numbers.result.now (omega arith) ∙ c.as_slice-numbers.ensures.value ∙ c.requires in
    c.of_vec.ensures ∙ c.loop-number.invariant ∙ ap (filter is_bred) all ∙ links_bred w c.args.breed c.shape-stands.ensures.stands
