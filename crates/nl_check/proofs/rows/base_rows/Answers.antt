use Rattle.std.proofs.Common.{sym}
use Rattle.nl_words.specs.Row.{row_of}
use Rattle.nl_words.specs.Rows.{rows}
use Rattle.nl_check.specs.inner.Tables.{base_whats}
use Rattle.nl_check.proofs.NamedRows.{row_step}
use Rattle.nl_check.proofs.rows.base_rows.Goals as goal

pub loop-place-preserved : goal.loop-place-preserved
loop-place-preserved c =
    let words = c.loop-place.invariant.words in
    let here = sym (rw words at c.in-Some.ensures.row) in
    record {
      words = words;
      list = rw (c.in_ok-push.ensures.ok, c.in_ok-name.ensures.ok, c.as_bytes.ensures.value) (row_step rows c.loop-place.place (row_of c.in-Some.entry.now) c.loop-place.list (base_whats rows) here c.loop-place.invariant.list);
    }
