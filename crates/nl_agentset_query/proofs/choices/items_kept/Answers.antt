use Rattle.std.proofs.Common.{map, length, ◌<◌, ◌++◌, ◌∷◌, [], ap, sym, ◌∙◌, arith}
use Rattle.std.proofs.lemmas.List.{length-map}
use Rattle.nl_value.specs.Views.{plain}
use Rattle.nl_agentset_query.proofs.Chosen.{mapped_at}
use Rattle.nl_agentset_query.proofs.Places.{kept_yes, kept_no}
use Rattle.nl_agentset_query.proofs.choices.items_kept.Goals as goal
use Rattle.nl_agentset_query.proofs.choices.items_kept.Goals.{then-contains+in_ok-again+in_ok-push, else-contains}

pub loop-at-preserved : goal.loop-at-preserved
loop-at-preserved c =
    let values = c.as_slice-values.result.now in
    let at = c.loop-at.at in
    let value = c.index-values-at.result in
    let inside : at < length (map plain values) = omega (arith, c.loop-at-test.true, length-map values plain) in
    elim c.if-contains.branch [
      | then-contains+in_ok-again+in_ok-push w ↦
          w.kept-is
          ∙ kept_yes c.args.places.now (map plain values) at (plain value) c.loop-at.kept w.push.new.self inside (mapped_at values at value c.index-values-at.is) (sym c.contains.ensures ∙ w.if-contains.true) c.loop-at.invariant
          (w.in_ok-push.ensures.ok ∙ ap (λ p. c.loop-at.kept ++ p ∷ []) w.in_ok-again.ensures.value)
      | else-contains w ↦
          w.kept-is
          ∙ kept_no c.args.places.now (map plain values) at (plain value) c.loop-at.kept inside (mapped_at values at value c.index-values-at.is) (sym c.contains.ensures ∙ w.if-contains.false) c.loop-at.invariant
    ]
