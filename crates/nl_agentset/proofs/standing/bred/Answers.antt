use Rattle.std.proofs.Common.{List, ℕ, Bool, filter, ap, sym, subst, ◌∙◌, arith}
use Rattle.std.specs.List.Sorted.{IsStrictlyIncreasing}
use Rattle.std.proofs.lemmas.List.{take_all}
use Rattle.std.proofs.lemmas.List.Kept.{IsStrictlyIncreasing-filter}
use Rattle.nl_agents.specs.Changes.{turtle_of}
use Rattle.nl_agentset_query.specs.Agents.{is_of, turtle_passes}
use Rattle.nl_agentset.proofs.standing.bred.Goals as goal

pub of_vec-requires : goal.of_vec-requires
of_vec-requires g c =
    let Ascends : List ℕ → Type 0 = λ l. IsStrictlyIncreasing l in
    let r = (g.S.Store.world c.args.store.now).rest in
    let kept : ℕ → Bool = λ turtle. turtle_passes (λ t. is_of c.args.breed t.breed) (turtle_of turtle r) in
    let all = take_all c.loop-number.number-index c.as_slice-numbers.result.now (omega arith) ∙ c.as_slice-numbers.ensures.value in
    subst Ascends (sym (c.loop-number.invariant ∙ ap (filter kept) all)) (IsStrictlyIncreasing-filter kept c.args.list.now c.as_slice-numbers.ensures.ascending)

pub returns : goal.returns
returns g c =
    let r = (g.S.Store.world c.args.store.now).rest in
    let kept : ℕ → Bool = λ turtle. turtle_passes (λ t. is_of c.args.breed t.breed) (turtle_of turtle r) in
    let all = take_all c.loop-number.number-index c.as_slice-numbers.result.now (omega arith) ∙ c.as_slice-numbers.ensures.value in
    c.of_vec.ensures ∙ c.loop-number.invariant ∙ ap (filter kept) all
