-- The nouns of values. Both are lists of numbers; the noun says what such a list is.
use Rattle.std.specs.Prelude.{ℕ, List}

-- the numbers of agents of one kind, ascending where a set lists them: serials of turtles or links, or numbers of patches
abbrev pub Serials : Type 0
Serials = List ℕ

-- numbers that a value or a part of it is compared by, the first that differ decide
abbrev pub Key : Type 0
Key = List ℕ
