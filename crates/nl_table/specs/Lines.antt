-- The bytes of a table's lines.
use Rattle.std.specs.Prelude.{ℕ, ◌==◌, List, [], ◌∷◌, ◌++◌, if◌then◌else◌}
use Rattle.csv.specs.declared.writer.QuoteStyle.TheVariants as style
use Rattle.csv.specs.declared.writer.WriterBuilder.{WriterBuilder}
use Rattle.csv.specs.Writing.{default_writer, with_style}
use Rattle.nl_fixed.specs.Nouns.{Bytes, Texts}

abbrev pub quote : ℕ
quote = 34

abbrev pub comma : ℕ
comma = 44

abbrev pub line_feed : ℕ
line_feed = 10

-- a text with each quote doubled
abbrev pub doubled : Bytes → Bytes
doubled [] = []
doubled (byte ∷ rest) = if byte == quote then quote ∷ byte ∷ doubled rest else byte ∷ doubled rest

-- a cell between quotes
abbrev pub cell_text : Bytes → Bytes
cell_text cell = quote ∷ doubled cell ++ quote ∷ []

-- each cell with a comma before it
abbrev pub further_cells : Texts → Bytes
further_cells [] = []
further_cells (cell ∷ cells) = comma ∷ cell_text cell ++ further_cells cells

-- the cells of a line, parted by commas, and a line feed; a line has a cell at least
abbrev pub line_text : Texts → Bytes
line_text [] = []
line_text (cell ∷ cells) = cell_text cell ++ further_cells cells ++ line_feed ∷ []

-- lines, one after another
abbrev pub lines_text : List Texts → Bytes
lines_text [] = []
lines_text (cells ∷ lines) = line_text cells ++ lines_text lines

-- how the crate `csv` is told to write lines
abbrev pub always_quoted : WriterBuilder
always_quoted = with_style default_writer style.Always
