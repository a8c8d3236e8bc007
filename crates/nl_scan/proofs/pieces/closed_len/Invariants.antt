use Rattle.std.proofs.Common.{◌≡◌, drop, false}
use Rattle.nl_scan.specs.inner.Pieces.{closed_length}
use Rattle.nl_scan.proofs.Runs.{plus}
use Rattle.nl_scan.proofs.pieces.closed_len.Given as goal

-- no byte so far closes the text
abbrev pub invariant-bytes : goal.invariant-bytes
invariant-bytes l = plus l.at (closed_length l.escaped (drop l.at l.behind_quote)) ≡ closed_length false l.behind_quote
