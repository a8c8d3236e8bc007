use Rattle.std.proofs.Common.{◌≡◌, subst, sym, ◌∙◌, List, ℕ, Option, Some, false, slice_get, MatchOption}
use Rattle.std.specs.List.Sorted.{IsStrictlyIncreasing}
use Rattle.nl_agents_layout.specs.Layouts.{has_slot}
use Rattle.nl_agents_layout.proofs.Placing.{placed}
use Rattle.nl_agents_layout.proofs.slots.Slots.place.Goals as goal

pub returns-clause-at : goal.returns-clause-at
returns-clause-at c =
    let Ascends : List ℕ → Type 0 = λ xs. IsStrictlyIncreasing xs in
    let IsPlace : List ℕ → Option ℕ → Type 0 = λ xs o. MatchOption o (has_slot xs c.args.slot ≡ false) (λ at. slice_get xs at ≡ Some c.args.slot) in
    let here = placed c.deref.result.now c.args.slot c.binary_search.result (subst Ascends (sym c.deref.ensures.value) c.self.invariant) c.binary_search.ensures.position in
    subst (λ xs. IsPlace xs c.ok.result) (c.deref.ensures.value ∙ c.self.view_is) (subst (λ o. IsPlace c.deref.result.now o) (sym c.ok.ensures.value) here)
