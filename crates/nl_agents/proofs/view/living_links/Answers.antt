use Rattle.std.proofs.Common.{List, ℕ, filter, ap, sym, subst, ◌∙◌, arith}
use Rattle.std.specs.List.Sorted.{IsStrictlyIncreasing}
use Rattle.std.proofs.lemmas.List.{take_all}
use Rattle.std.proofs.lemmas.List.Kept.{IsStrictlyIncreasing-filter}
use Rattle.nl_agents.specs.Changes.{link_lives}
use Rattle.nl_agents.proofs.LivingMembers.{listed_links}
use Rattle.nl_agents.proofs.view.living_links.Goals as goal

pub of_vec-requires : goal.of_vec-requires
of_vec-requires g c =
    let Ascends : List ℕ → Type 0 = λ l. IsStrictlyIncreasing l in
    let lives = link_lives (g.S.Store.world c.args.store.now).rest in
    let all = take_all c.loop-number.number-index c.as_slice-numbers.result.now (omega arith) ∙ c.as_slice-numbers.ensures.value in
    subst Ascends (sym (c.loop-number.invariant ∙ ap (filter lives) all)) (IsStrictlyIncreasing-filter lives c.args.list.now c.as_slice-numbers.ensures.ascending)

pub returns : goal.returns
returns g c =
    let w = g.S.Store.world c.args.store.now in
    let all = take_all c.loop-number.number-index c.as_slice-numbers.result.now (omega arith) ∙ c.as_slice-numbers.ensures.value in
    c.of_vec.ensures ∙ c.loop-number.invariant ∙ ap (filter (link_lives w.rest)) all
    ∙ listed_links w c.args.list.now c.shape-stands.ensures.stands c.as_slice-numbers.ensures.ascending
