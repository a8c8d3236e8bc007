-- The nouns of texts. All of them are lists of bytes or lists of these; the noun says what such a list is.
use Rattle.std.specs.Prelude.{ℕ, List}

-- bytes, in order
abbrev pub Bytes : Type 0
Bytes = List ℕ

-- the bytes of a name, in lower case
abbrev pub Name : Type 0
Name = Bytes

-- names, in order
abbrev pub Names : Type 0
Names = List Name

-- texts, in order: the cells of a line, the characters of a text
abbrev pub Texts : Type 0
Texts = List Bytes
