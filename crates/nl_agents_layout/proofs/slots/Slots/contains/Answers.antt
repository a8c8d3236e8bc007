use Rattle.std.proofs.Common.{ap, ◌∙◌, sym, subst, ◌==◌, List, ℕ}
use Rattle.std.specs.List.{list_any}
use Rattle.std.specs.List.Sorted.{IsStrictlyIncreasing}
use Rattle.nl_value.proofs.Searching.{found_any}
use Rattle.nl_agents_layout.proofs.slots.Slots.contains.Goals as goal

pub returns : goal.returns
returns c =
    let Ascends : List ℕ → Type 0 = λ xs. IsStrictlyIncreasing xs in
    c.is_ok.ensures.value
    ∙ found_any c.deref.result.now c.args.slot c.binary_search.result (subst Ascends (sym c.deref.ensures.value) c.self.invariant) c.binary_search.ensures.position
    ∙ ap (λ (xs : List ℕ). list_any (λ other. other == c.args.slot) xs) (c.deref.ensures.value ∙ c.self.view_is)
