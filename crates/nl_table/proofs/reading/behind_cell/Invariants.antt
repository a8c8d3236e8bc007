use Rattle.std.proofs.Common.{◌≡◌, ◌++◌, ◌∷◌, [], drop}
use Rattle.nl_table.specs.Lines.{quote, cell_text, doubled}
use Rattle.nl_table.specs.Reading.{behind}
use Rattle.nl_table.proofs.reading.behind_cell.Given as goal

abbrev pub invariant-loop-byte : goal.invariant-loop-byte
invariant-loop-byte l = behind (cell_text l.cell) l.bytes ≡ behind (doubled (drop l.byte-index l.cell) ++ quote ∷ []) l.left
