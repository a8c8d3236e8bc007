-- Lines and columns.
use Rattle.std.specs.Prelude.{ℕ, ◌+◌, ◌==◌, take, reverse, length, count_by, take_while, not}
use Rattle.nl_fixed.specs.Nouns.{Bytes}

-- the line behind these bytes, counted from 1: one more than the line ends among them
abbrev pub line_after : Bytes → ℕ
line_after before = count_by (λ byte. byte == 10) before + 1

-- the column behind these bytes, counted from 1: one more than the bytes since the last line end
abbrev pub column_after : Bytes → ℕ
column_after before = length (take_while (λ byte. not (byte == 10)) (reverse before)) + 1

-- line and column of a place in a text; a place past the end counts as the end
abbrev pub line_and_column : Bytes → ℕ → ℕ × ℕ
line_and_column text place = let before = take place text in (line_after before, column_after before)
