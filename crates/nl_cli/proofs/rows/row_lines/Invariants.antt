use Rattle.std.proofs.Common.{◌≡◌, ◌++◌, map, length}
use Rattle.nl_table.specs.Lines.{lines_text}
use Rattle.nl_cli.specs.Table.{last_line}
use Rattle.nl_cli.specs.inner.Stages.{cells_behind}
use Rattle.nl_cli.proofs.Pieces.{last_behind}
use Rattle.nl_cli.proofs.rows.row_lines.Given as goal

-- the lines so far, and those that are left
abbrev pub invariant-rows : goal.invariant-rows
invariant-rows l =
    (l.text ++ lines_text (map (cells_behind l.head) l.left) ≡ lines_text (map (cells_behind l.head) l.fn.rows))
    × (last_behind l.last (map (cells_behind l.head) l.left) ≡ last_line (map (cells_behind l.head) l.fn.rows))

abbrev pub decreases-rows : goal.decreases-rows
decreases-rows l = length l.left
