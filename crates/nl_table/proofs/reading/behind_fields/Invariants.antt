use Rattle.std.proofs.Common.{◌≡◌, ◌++◌, ◌∷◌, [], drop}
use Rattle.csv.specs.Records.{fields_of}
use Rattle.nl_table.specs.Lines.{line_feed, further_cells}
use Rattle.nl_table.specs.Reading.{behind, behind_line}
use Rattle.nl_table.proofs.reading.behind_fields.Given as goal

abbrev pub invariant-loop-place : goal.invariant-loop-place
invariant-loop-place l = behind_line (fields_of l.row) l.bytes ≡ behind (further_cells (drop l.place (fields_of l.row)) ++ line_feed ∷ []) l.left
