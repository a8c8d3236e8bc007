use Rattle.std.proofs.Common.{◌≡◌, take}
use Rattle.nl_words.specs.Rows.{rows}
use Rattle.nl_tree.specs.inner.Samples.{base_whats}
use Rattle.nl_tree.proofs.tests.base_rows.Given as goal

-- the rows so far, and the table that they come from
abbrev pub invariant-loop-place : goal.invariant-loop-place
invariant-loop-place l = (l.words ≡ rows) × (l.list ≡ take l.place (base_whats rows))
