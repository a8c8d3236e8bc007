use Rattle.std.proofs.Common.{◌≡◌, ◌+◌, drop}
use Rattle.nl_listops_series.specs.inner.Pieces.{skipped}
use Rattle.nl_listops_series.proofs.occurrences.end_of_character.Given as goal

abbrev pub invariant-loop-end : goal.invariant-loop-end
invariant-loop-end l = skipped (drop l.end l.bytes) ≡ skipped (drop (l.place + 1) l.bytes)
