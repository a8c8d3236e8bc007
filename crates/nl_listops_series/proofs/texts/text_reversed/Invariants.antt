use Rattle.nl_listops_series.specs.inner.Turning.{IsTurned}
use Rattle.nl_listops_series.proofs.texts.text_reversed.Given as goal

abbrev pub invariant-loop-place : goal.invariant-loop-place
invariant-loop-place l = IsTurned l.bytes l.place l.end l.turned
