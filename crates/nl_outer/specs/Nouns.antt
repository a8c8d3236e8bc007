-- The nouns of the outside: lists of bytes or of numbers, by what they are.
use Rattle.std.specs.Prelude.{ℕ, List}
use Rattle.nl_fixed.specs.Nouns.{Bytes}

-- the path of a file, as it was asked for
abbrev pub Path : Type 0
Path = Bytes

-- the words of a command, in order
abbrev pub Words : Type 0
Words = List Bytes

-- calls by their numbers, of which the first is 1
abbrev pub Calls : Type 0
Calls = List ℕ
