use Rattle.std.proofs.Common.{arith, subst, sym, ap, ◌∙◌, ◌+◌, ◌+ℤ◌, ◌++◌, ◌∷◌, [], map}
use Rattle.nl_fixed.specs.Numbers.{IsInRange}
use Rattle.nl_value.specs.Plain.{PlainNumber}
use Rattle.nl_listops_series.specs.Ranges.{numbers_from}
use Rattle.nl_listops_series.proofs.Rows.{numbers_more, next_number, first_number}
use Rattle.nl_listops_series.proofs.ranges.numbers_from.Goals as goal
use Rattle.nl_listops_series.proofs.ranges.numbers_from.Goals.{then-k-length, else-k-length}

pub loop-k-init : goal.loop-k-init
loop-k-init c = record { so_far = c.empty-items.ensures; at = λ _. first_number c.args.start c.args.step }

pub plus-next-requires : goal.plus-next-requires
plus-next-requires c =
    let here = c.loop-k.invariant.at c.loop-k-test.true in
    subst IsInRange (next_number c.args.start c.args.step c.loop-k.k ∙ ap (λ n. n +ℤ c.args.step) (sym here)) (c.requires.in_range (c.loop-k.k + 1) c.if-k-length.true)

pub loop-k-preserved : goal.loop-k-preserved
loop-k-preserved c =
    let here = c.loop-k.invariant.at c.loop-k-test.true in
    record {
      so_far =
          c.in_ok-push.ensures.ok
          ∙ (ap (λ items. items ++ PlainNumber c.loop-k.next ∷ []) c.loop-k.invariant.so_far
          ∙ (ap (λ n. map PlainNumber (numbers_from c.args.start c.args.step c.loop-k.k) ++ PlainNumber n ∷ []) here ∙ sym (numbers_more c.args.start c.args.step c.loop-k.k)));
      at = λ more.
          elim c.if-k-length.branch [
            | then-k-length w ↦ w.next-is ∙ (w.plus-next.ensures ∙ (ap (λ n. n +ℤ c.args.step) here ∙ sym (next_number c.args.start c.args.step c.loop-k.k)))
            | else-k-length w ↦ absurd (omega (arith, w.if-k-length.false))
          ];
    }
