use Rattle.std.proofs.Common.{◌≡◌, ◌++◌, take}
use Rattle.nl_table.proofs.lines.Record.extend.Given as goal

abbrev pub invariant-loop-cell : goal.invariant-loop-cell
invariant-loop-cell l = l.self ≡ l.fn.self ++ take l.cell-index l.cell-items
