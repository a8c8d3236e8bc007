-- The name is not among the rows so far.
use Rattle.std.proofs.Common.{◌≡◌}
use Rattle.nl_value.proofs.Coloring.{among_rest}
use Rattle.nl_value.proofs.colors.find.Given as goal

abbrev pub invariant-loop-row : goal.invariant-loop-row
invariant-loop-row l = among_rest l.rows l.name 0 ≡ among_rest l.rows l.name l.row-index
