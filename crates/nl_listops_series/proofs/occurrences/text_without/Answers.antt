use Rattle.std.proofs.Common.{sym, ap, ◌∙◌, ◌-◌, ◌++◌, ◌≡◌, drop, take, length, append_assoc}
use Rattle.std.proofs.lemmas.List.{append-nil}
use Rattle.std.proofs.lemmas.Result.{IfOk-weaker}
use Rattle.std.specs.List.{concat}
use Rattle.nl_fixed.specs.Characters.{characters}
use Rattle.nl_listops_series.specs.Searches.{left_without, text_without}
use Rattle.nl_listops_series.proofs.OccurrenceLemmas.{left_behind, left_between, occurs_told, slice_test, past_end, some_test, without_more, without_empty, without_some, left_end, shorter_by}
use Rattle.nl_listops_series.proofs.occurrences.text_without.Goals as goal

pub returns-then-is_empty : goal.returns-then-is_empty
returns-then-is_empty c =
    let part = c.as_bytes-part.result.now in
    let same = ap (λ p. text_without p c.args.text.now) (sym c.as_bytes-part.ensures) ∙ without_empty part c.args.text.now (sym c.if-is_empty.ensures) in
    IfOk-weaker c.copy.result (λ text. text ≡ c.args.text.now) (λ rest. rest ≡ text_without c.args.part.now c.args.text.now) (λ text is. is ∙ sym same) c.copy.ensures.ok

pub loop-place-preserved-then-begin_with : goal.loop-place-preserved-then-begin_with
loop-place-preserved-then-begin_with c =
    let part = c.as_bytes-part.result.now in
    let bytes = c.as_bytes-bytes.result.now in
    let place = c.loop-place.place in
    let some = some_test part (sym c.if-is_empty.ensures) in
    let test = slice_test part bytes place _ c.if-begin_with.ensures in
    let long = (occurs_told part (drop place bytes) some test).long in
    record {
      so_far = c.loop-place.invariant.so_far ∙ ap (λ cs. c.loop-place.rest ++ concat cs) (left_behind part (drop place bytes) some test ∙ without_more part bytes place);
      within = shorter_by bytes place (length part) c.loop-place.invariant.within long;
    }

pub loop-place-preserved : goal.loop-place-preserved
loop-place-preserved c =
    let part = c.as_bytes-part.result.now in
    let bytes = c.as_bytes-bytes.result.now in
    let end = c.end_of_character-end.ensures in
    let more = left_between part bytes c.loop-place.place c.end_of_character-end.result end.behind end.within (slice_test part bytes c.loop-place.place _ c.if-begin_with.ensures) end.end in
    let after = concat (left_without 0 (characters part) (characters (drop c.end_of_character-end.result bytes))) in
    record {
      so_far =
          c.loop-place.invariant.so_far
          ∙ (ap (λ s. c.loop-place.rest ++ s) more
          ∙ (sym (append_assoc c.loop-place.rest (take (c.end_of_character-end.result - c.loop-place.place) (drop c.loop-place.place bytes)) after) ∙ ap (λ s. s ++ after) (sym c.in_ok-append.ensures.ok)));
      within = end.within;
    }

pub returns : goal.returns
returns c =
    let part = c.as_bytes-part.result.now in
    let bytes = c.as_bytes-bytes.result.now in
    let some = some_test part (sym c.if-is_empty.ensures) in
    let none = left_end part (drop c.loop-place.place bytes) (past_end bytes c.loop-place.place c.loop-place-test.false) in
    sym (ap (λ p. text_without p c.args.text.now) (sym c.as_bytes-part.ensures)
    ∙ (ap (text_without part) (sym c.as_bytes-bytes.ensures) ∙ (without_some part bytes some ∙ (c.loop-place.invariant.so_far ∙ (ap (λ s. c.loop-place.rest ++ s) none ∙ append-nil c.loop-place.rest)))))
