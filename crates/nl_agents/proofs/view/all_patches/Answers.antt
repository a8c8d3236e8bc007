use Rattle.std.proofs.Common.{◌++◌, [], ◌∷◌, List, ℕ, ap, sym, subst, ◌∙◌}
use Rattle.std.specs.List.Sorted.{IsStrictlyIncreasing}
use Rattle.nl_agents_layout.proofs.Ascending.{range_more, range_ascends}
use Rattle.nl_agents.proofs.view.all_patches.Goals as goal

pub loop-patch-preserved : goal.loop-patch-preserved
loop-patch-preserved g c =
    let n = c.loop-patch.patch in
    c.in_ok-push.ensures.items ∙ ap (λ (x : ℕ). c.loop-patch.numbers.items ++ x ∷ []) c.from.ensures ∙ ap (λ (l : List ℕ). l ++ n ∷ []) c.loop-patch.invariant ∙ sym (range_more n)

pub of_vec-requires : goal.of_vec-requires
of_vec-requires g c = let Ascends : List ℕ → Type 0 = λ l. IsStrictlyIncreasing l in subst Ascends (sym c.loop-patch.invariant) (range_ascends 0 c.loop-patch.patch)
