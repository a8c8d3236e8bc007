-- The colors that have names, with their numbers. The names and numbers are those of the NetLogo Programming Guide ("Color").
use Rattle.std.specs.Prelude.{ℕ, ℤ, pos, ◌*◌, Option, Some, None, if◌then◌else◌, List, [], ◌∷◌, ◌++◌, map, codes}
use Rattle.std.specs.Str.{bytes_eq}
use Rattle.nl_fixed.specs.Nouns.{Name}

pub record Color : Type 0 where
  pub name : Name
  pub millionths : ℤ

-- a color of so many tenths
abbrev color : Name → ℕ → Color
color name tenths = record { name = name; millionths = pos (tenths * 100000) }

-- the primary colors, in order
abbrev pub primary_colors : List Color
primary_colors =
    color (codes "gray") 50 ∷ color (codes "red") 150 ∷ color (codes "orange") 250 ∷ color (codes "brown") 350 ∷ color (codes "yellow") 450
    ∷ color (codes "green") 550 ∷ color (codes "lime") 650 ∷ color (codes "turquoise") 750 ∷ color (codes "cyan") 850 ∷ color (codes "sky") 950
    ∷ color (codes "blue") 1050 ∷ color (codes "violet") 1150 ∷ color (codes "magenta") 1250 ∷ color (codes "pink") 1350 ∷ []

-- with a second spelling of one of them, and the two ends of each range of shades
abbrev pub named_colors : List Color
named_colors = primary_colors ++ color (codes "grey") 50 ∷ color (codes "black") 0 ∷ color (codes "white") 99 ∷ []

-- the numbers of the primary colors, in order
abbrev pub primary_numbers : List ℤ
primary_numbers = map (λ c. c.millionths) primary_colors

-- the number of the first color that has this name
abbrev pub number_among : List Color → Name → Option ℤ
number_among [] name = None
number_among (c ∷ cs) name = if bytes_eq c.name name then Some c.millionths else number_among cs name

abbrev pub color_named : Name → Option ℤ
color_named name = number_among named_colors name
