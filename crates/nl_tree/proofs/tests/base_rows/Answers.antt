use Rattle.std.proofs.Common.{sym}
use Rattle.nl_words.specs.Row.{row_of}
use Rattle.nl_words.specs.Rows.{rows}
use Rattle.nl_tree.proofs.SampleRows.{next_row}
use Rattle.nl_tree.proofs.tests.base_rows.Goals as goal

pub loop-place-preserved : goal.loop-place-preserved
loop-place-preserved c =
    let words = c.loop-place.invariant.0 in
    let here = sym (rw words at c.in-Some.ensures.row) in
    (words, rw (c.in_ok-push.ensures.ok, c.loop-place.invariant.1, c.in_ok-name.ensures.ok, c.as_bytes.ensures.value) (next_row rows c.loop-place.place (row_of c.in-Some.entry.now) here))
