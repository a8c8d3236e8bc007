use Rattle.std.proofs.Common.{List, ℕ, get_or, ap, sym, subst, ◌∙◌, arith}
use Rattle.std.specs.List.Sorted.{IsStrictlyIncreasing}
use Rattle.std.proofs.lemmas.List.{take_all}
use Rattle.nl_agentset_query.specs.Choices.{kept_from}
use Rattle.nl_agentset_query.proofs.Places.{any_default, kept_yes, kept_no, kept_ascends}
use Rattle.nl_agentset_query.proofs.choices.numbers_kept.Goals as goal
use Rattle.nl_agentset_query.proofs.choices.numbers_kept.Goals.{then-contains+in_ok-push, else-contains}

pub loop-at-preserved : goal.loop-at-preserved
loop-at-preserved c =
    let numbers = c.as_slice-numbers.result.now in
    let at = c.loop-at.at in
    elim c.if-contains.branch [
      | then-contains+in_ok-push w ↦
          rw w.kept-is
          (kept_yes c.args.places.now numbers at _ c.loop-at.kept.items w.push.new.self.items c.loop-at-test.true (any_default numbers at _ _ c.loop-at-test.true) (sym c.contains.ensures ∙ w.if-contains.true) c.loop-at.invariant w.in_ok-push.ensures.items)
      | else-contains w ↦
          rw w.kept-is
          (kept_no c.args.places.now numbers at (get_or numbers at 0) c.loop-at.kept.items c.loop-at-test.true (any_default numbers at _ _ c.loop-at-test.true) (sym c.contains.ensures ∙ w.if-contains.false) c.loop-at.invariant)
    ]

pub of_vec-requires : goal.of_vec-requires
of_vec-requires c =
    let all = take_all c.loop-at.at c.as_slice-numbers.result.now (omega arith) ∙ c.as_slice-numbers.ensures.value in
    subst (λ (l : List ℕ). IsStrictlyIncreasing l) (sym (c.loop-at.invariant ∙ ap (λ (l : List ℕ). kept_from 0 c.args.places.now l) all))
    (kept_ascends c.args.places.now 0 c.args.list.now c.as_slice-numbers.ensures.ascending)
