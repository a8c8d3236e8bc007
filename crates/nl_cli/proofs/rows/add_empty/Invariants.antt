use Rattle.std.proofs.Common.{◌≡◌, [], ◌++◌, replicate}
use Rattle.nl_cli.proofs.rows.add_empty.Given as goal

-- the cells so far, and those that are left
abbrev pub invariant-cells : goal.invariant-cells
invariant-cells l = l.line ++ replicate l.left [] ≡ l.initial.line ++ replicate l.count []

abbrev pub decreases-cells : goal.decreases-cells
decreases-cells l = l.left
