use Rattle.std.proofs.Common.{◌≡◌, ◌++◌, drop}
use Rattle.nl_words.specs.Rows.{rows}
use Rattle.nl_check.specs.inner.Tables.{base_whats}
use Rattle.nl_check.proofs.rows.base_rows.Given as goal

abbrev pub invariant-loop-place : goal.invariant-loop-place
invariant-loop-place l = record {
  words : l.words ≡ rows;
  list : l.list ++ base_whats (drop l.place rows) ≡ base_whats rows;
}
