use Rattle.std.proofs.Common.{List, ℕ, Bool, filter, not, ap, sym, subst, ◌∙◌, arith}
use Rattle.std.specs.List.Sorted.{IsStrictlyIncreasing}
use Rattle.std.proofs.lemmas.List.{take_all}
use Rattle.std.proofs.lemmas.List.Kept.{IsStrictlyIncreasing-filter}
use Rattle.nl_agentset.specs.Sets.{is_caller}
use Rattle.nl_agentset.proofs.sets.without.Goals as goal

pub of_vec-requires : goal.of_vec-requires
of_vec-requires c =
    let Ascends : List ℕ → Type 0 = λ l. IsStrictlyIncreasing l in
    let kept : ℕ → Bool = λ number. not (is_caller c.args.caller c.args.kind number) in
    let all = take_all c.loop-number.number-index c.as_slice-numbers.result.now (omega arith) ∙ c.as_slice-numbers.ensures.value in
    subst Ascends (sym (c.loop-number.invariant ∙ ap (filter kept) all)) (IsStrictlyIncreasing-filter kept c.args.list.now c.as_slice-numbers.ensures.ascending)

pub returns : goal.returns
returns c =
    let kept : ℕ → Bool = λ number. not (is_caller c.args.caller c.args.kind number) in
    let all = take_all c.loop-number.number-index c.as_slice-numbers.result.now (omega arith) ∙ c.as_slice-numbers.ensures.value in
    c.of_vec.ensures ∙ c.loop-number.invariant ∙ ap (filter kept) all
