use Rattle.std.proofs.Common.{◌≡◌, true, drop}
use Rattle.nl_table.proofs.Ends.{ends_from}
use Rattle.nl_table.proofs.pieces.piece_end.Given as goal

abbrev pub invariant-loop-place : goal.invariant-loop-place
invariant-loop-place l = ends_from true l.from (drop l.from l.rest) ≡ ends_from l.outside l.place (drop l.place l.rest)
