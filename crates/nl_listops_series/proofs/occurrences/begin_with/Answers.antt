use Rattle.std.proofs.Common.{sym, ap, ◌∙◌, ◌<◌, length, subst, not, bytes_eq}
use Rattle.nl_listops_series.proofs.OccurrenceLemmas.{occurs_short, occurs_other, occurs_last, occurs_before, empty_test, some_test}
use Rattle.nl_listops_series.proofs.occurrences.begin_with.Goals as goal

pub returns-then-bytes-part : goal.returns-then-bytes-part
returns-then-bytes-part c = sym (occurs_short c.args.part.now c.args.bytes.now c.if-bytes-part.true)

pub returns-then-is_empty : goal.returns-then-is_empty
returns-then-is_empty c = sym (empty_test c.args.part.now c.args.bytes.now (sym c.if-is_empty.ensures))

pub returns-then-ne : goal.returns-then-ne
returns-then-ne c = sym (occurs_other c.args.part.now c.args.bytes.now (ap (λ xs. not (bytes_eq xs c.args.part.now)) (sym c.split_at.ensures.front) ∙ sym c.if-ne.ensures))

pub returns-in-empty : goal.returns-in-empty
returns-in-empty c =
    sym (occurs_last c.args.part.now c.args.bytes.now (ap (λ xs. not (bytes_eq xs c.args.part.now)) (sym c.split_at.ensures.front) ∙ sym c.if-ne.ensures)
    (subst (λ xs. length xs < 1) c.split_at.ensures.back c.in-empty.len_below))

pub returns-in-len1-up : goal.returns-in-len1-up
returns-in-len1-up c =
    c.begins.ensures
    ∙ occurs_before c.args.part.now c.args.bytes.now c.split_at.result.1.now (some_test c.args.part.now (sym c.if-is_empty.ensures)) (ap (λ xs. not (bytes_eq xs c.args.part.now)) (sym c.split_at.ensures.front) ∙ sym c.if-ne.ensures) c.split_at.ensures.back c.in-len1-up.len_at_least
