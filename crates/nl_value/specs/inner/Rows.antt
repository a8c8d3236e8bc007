-- A row of the program's table of colors as a color.
use Rattle.std.specs.Prelude.{pos, ◌*◌}
use Rattle.nl_value.specs.declared.colors.NamedColor.{NamedColor}
use Rattle.nl_value.specs.Colors.{Color}

abbrev pub color_of : NamedColor → Color
color_of row = record { name = row.name.now; millionths = pos (row.tenths * 100000) }
