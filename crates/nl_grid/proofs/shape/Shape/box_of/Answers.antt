use Rattle.std.proofs.Common.{ℕ, ℤ, pos, ◌-ℤ◌, ◌*◌, ◌≤◌, ◌≡◌, List, length, Contains, to_z, of_z, sym, ap, subst, ◌∙◌}
use Rattle.std.specs.Int.{w64}
use Rattle.nl_grid.specs.Geometry.{IsWithinLimits, patch_at, patches_near, reach_of, steps_across}
use Rattle.nl_grid.proofs.CoverLemmas.{box_covers, box_is, reach_is}
use Rattle.nl_grid.proofs.shape.Shape.box_of.Goals as goal

reach : (c : goal.After-around) → to_z w64 (of_z w64 (pos 1 -ℤ to_z w64 (of_z w64 c.div_euclid-reach.result))) ≡ reach_of c.args.radius
reach c = reach_is c.args.radius c.millionths.result c.div_euclid-reach.result c.millionths.ensures.bound c.millionths.ensures.value c.div_euclid-reach.ensures

pub returns-clause-patches : goal.returns-clause-patches
returns-clause-patches c =
    c.around.ensures.patches ∙ ap (λ k. patches_near c.args.self.now k c.patch_of.result) (reach c) ∙ ap (patches_near c.args.self.now (reach_of c.args.radius)) c.patch_of.ensures.patch ∙ box_is c.args.self.now c.args.at c.args.radius

pub returns-clause-few : goal.returns-clause-few
returns-clause-few c =
    let P : ℤ → Type 0 = λ z. length c.around.result ≤ steps_across z * steps_across z in
    subst P (reach c) c.around.ensures.few

pub returns-clause-covers : goal.returns-clause-covers
returns-clause-covers c to point near =
    let P : List ℕ → Type 0 = λ xs. Contains xs (patch_at c.args.self.now to) in
    subst P (sym (returns-clause-patches c)) (box_covers c.args.self.now c.args.at to c.args.radius (subst IsWithinLimits c.self.view_is c.self.invariant) c.requires point near)
