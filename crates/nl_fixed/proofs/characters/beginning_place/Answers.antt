use Rattle.std.proofs.Common.{◌≡◌, ◌+◌, true, false, Some, length, get_or, ◌∙◌, sym, ap, arith}
use Rattle.nl_fixed.specs.Characters.{begins}
use Rattle.nl_fixed.proofs.CharacterLemmas.{found_from, search_begun, search_past, search_counted, search_here, search_ended, search_missed}
use Rattle.nl_fixed.proofs.characters.beginning_place.Goals as goal
use Rattle.nl_fixed.proofs.characters.beginning_place.Goals.{then-begins+else-left-eq0, else-begins}

pub loop-place-init : goal.loop-place-init
loop-place-init c = search_begun _ _

pub returns-then-left-eq0-clause-value : goal.returns-then-left-eq0-clause-value
returns-then-left-eq0-clause-value c =
    let begins_here : begins (get_or c.args.bytes.now c.loop-place.place 0) ≡ true = cc in
    let none_left = ap (λ n. found_from c.args.bytes.now c.loop-place.place n) c.if-left-eq0.true in
    sym (c.loop-place.invariant ∙ none_left ∙ search_here c.args.bytes.now c.loop-place.place (omega arith) begins_here)

pub loop-place-preserved : goal.loop-place-preserved
loop-place-preserved c = elim c.if-begins.branch [
  | then-begins+else-left-eq0 w ↦ (
      let begins_here : begins (get_or c.args.bytes.now c.loop-place.place 0) ≡ true = cc in
      c.loop-place.invariant
      ∙ search_counted c.args.bytes.now c.loop-place.place c.loop-place.left (omega arith) begins_here (omega arith)
      ∙ ap (λ n. found_from c.args.bytes.now (c.loop-place.place + 1) n) (sym w.left-is))
  | else-begins w ↦ (
      let goes_on_here : begins (get_or c.args.bytes.now c.loop-place.place 0) ≡ false = cc in
      c.loop-place.invariant
      ∙ search_past c.args.bytes.now c.loop-place.place c.loop-place.left (omega arith) goes_on_here
      ∙ ap (λ n. found_from c.args.bytes.now (c.loop-place.place + 1) n) (sym w.left-is))
]

pub returns-then-left-eq0-2-clause-value : goal.returns-then-left-eq0-2-clause-value
returns-then-left-eq0-2-clause-value c =
    let none_left = ap (λ n. found_from c.args.bytes.now c.loop-place.place n) c.if-left-eq0-2.true in
    let end : c.loop-place.place ≡ length c.args.bytes.now = omega arith in
    sym (c.loop-place.invariant ∙ none_left ∙ search_ended c.args.bytes.now c.loop-place.place (omega arith) ∙ ap Some end)

pub returns-else-left-eq0-2-clause-value : goal.returns-else-left-eq0-2-clause-value
returns-else-left-eq0-2-clause-value c =
    sym (c.loop-place.invariant ∙ search_missed c.args.bytes.now c.loop-place.place c.loop-place.left (omega arith) (omega arith))
