use Rattle.std.proofs.Common.{ℕ, ℤ, Option, ◌∙◌, subst, arith}
use Rattle.std.specs.List.{Contains}
use Rattle.nl_motion.specs.Climbing.{patch_number}
use Rattle.nl_motion.proofs.Best.{same_test, best_passed, best_taken, best_of_world}
use Rattle.nl_motion.proofs.climbing.best_of.Goals as goal
use Rattle.nl_motion.proofs.climbing.best_of.Goals.{then-is_best, else-is_best}

pub numbers_on-numbers-requires-clause-world : goal.numbers_on-numbers-requires-clause-world
numbers_on-numbers-requires-clause-world g c =
    λ patch h. c.requires patch (subst (λ xs. Contains xs patch) c.as_slice-patches.ensures.value h)

pub loop-index-preserved : goal.loop-index-preserved
loop-index-preserved g c =
    let patches = c.as_slice-patches.result.now in
    let number : ℕ → Option ℤ = patch_number (g.S.Store.world c.args.store.now) c.args.slot in
    let tested = same_test c.args.up number patches _ c.loop-index.index _ _ (omega arith) c.numbers_on-numbers.ensures c.index-others-index.is c.is_best.ensures in
    elim c.if-is_best.branch [
      | then-is_best w ↦ best_taken c.args.up number patches c.loop-index.best _ c.loop-index.index (omega arith) (tested ∙ w.if-is_best.true) (w.best-is ∙ w.push.ensures) c.loop-index.invariant
      | else-is_best w ↦ best_passed c.args.up number patches c.loop-index.best _ c.loop-index.index (omega arith) (tested ∙ w.if-is_best.false) w.best-is c.loop-index.invariant
    ]

pub returns-clause-world : goal.returns-clause-world
returns-clause-world g c =
    let patches = c.as_slice-patches.result.now in
    let number : ℕ → Option ℤ = patch_number (g.S.Store.world c.args.store.now) c.args.slot in
    best_of_world (g.S.Store.world c.args.store.now).rest.shape c.args.up number patches c.loop-index.best c.loop-index.index
    (λ patch h. c.requires patch (subst (λ xs. Contains xs patch) c.as_slice-patches.ensures.value h)) (omega arith) c.loop-index.invariant.1
