-- The nouns of the geometry. All of them are lists of numbers; the noun says what such a list is.
use Rattle.std.specs.Prelude.{ℕ, List}

-- the numbers of patches
abbrev pub Patches : Type 0
Patches = List ℕ
