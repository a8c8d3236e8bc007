use Rattle.std.proofs.Common.{arith, sym, ap, ◌∙◌, ◌+◌, drop, slice_index}
use Rattle.nl_fixed.specs.Characters.{characters}
use Rattle.nl_listops_series.specs.Searches.{found_from, place_of_text}
use Rattle.nl_listops_series.proofs.OccurrenceLemmas.{found_here, found_behind, found_at_end, found_nowhere, slice_test, at_place, past_end, some_test}
use Rattle.nl_listops_series.proofs.occurrences.place_of_text.Goals as goal

pub returns-then-begin_with : goal.returns-then-begin_with
returns-then-begin_with c =
    let part = c.as_bytes-part.result.now in
    let bytes = c.as_bytes-bytes.result.now in
    let here = found_here c.loop-place.index part (drop c.loop-place.place bytes) (slice_test part bytes c.loop-place.place _ c.if-begin_with.ensures) in
    sym (ap (λ p. place_of_text p c.args.text.now) (sym c.as_bytes-part.ensures) ∙ (ap (place_of_text part) (sym c.as_bytes-bytes.ensures) ∙ (c.loop-place.invariant.found ∙ here)))

pub loop-place-preserved : goal.loop-place-preserved
loop-place-preserved c =
    let part = c.as_bytes-part.result.now in
    let bytes = c.as_bytes-bytes.result.now in
    let place = c.loop-place.place in
    let behind = found_behind c.loop-place.index part (slice_index bytes place) (drop (place + 1) bytes) (drop place bytes) (at_place bytes place c.loop-place-test.true) (slice_test part bytes place _ c.if-begin_with.ensures) in
    record {
      found = c.loop-place.invariant.found ∙ (behind ∙ ap (λ s. found_from (c.loop-place.index + 1) (characters part) (characters s)) (sym c.end_of_character-place.ensures.end));
      counted = (let counted = c.loop-place.invariant.counted in let far = c.end_of_character-place.ensures.behind in omega arith);
      within = c.end_of_character-place.ensures.within;
    }

pub returns-then-is_empty : goal.returns-then-is_empty
returns-then-is_empty c =
    let part = c.as_bytes-part.result.now in
    let bytes = c.as_bytes-bytes.result.now in
    let here = found_at_end c.loop-place.index part (drop c.loop-place.place bytes) (past_end bytes c.loop-place.place c.loop-place-test.false) (sym c.if-is_empty.ensures) in
    sym (ap (λ p. place_of_text p c.args.text.now) (sym c.as_bytes-part.ensures) ∙ (ap (place_of_text part) (sym c.as_bytes-bytes.ensures) ∙ (c.loop-place.invariant.found ∙ here)))

pub returns-else-is_empty : goal.returns-else-is_empty
returns-else-is_empty c =
    let part = c.as_bytes-part.result.now in
    let bytes = c.as_bytes-bytes.result.now in
    let nowhere = found_nowhere c.loop-place.index part (drop c.loop-place.place bytes) (past_end bytes c.loop-place.place c.loop-place-test.false) (some_test part (sym c.if-is_empty.ensures)) in
    sym (ap (λ p. place_of_text p c.args.text.now) (sym c.as_bytes-part.ensures) ∙ (ap (place_of_text part) (sym c.as_bytes-bytes.ensures) ∙ (c.loop-place.invariant.found ∙ nowhere)))
