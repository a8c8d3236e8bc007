-- The characters of a text, over its bytes. As in UTF-8 a byte from 128 to 191 goes on with a character, and each other
-- byte begins one; the first byte of a text begins one in any case, so that every list of bytes has its characters.
use Rattle.std.specs.Prelude.{◌≡◌, ℕ, Bool, true, false, ◌&&◌, nat_le, if◌then◌else◌, Option, Some, None, [], ◌∷◌, length, map, take, drop, IsUtf8, chars, encode_utf8}
use Rattle.std.specs.List.{concat, list_all}
use Rattle.nl_fixed.specs.Nouns.{Bytes, Texts}

abbrev pub goes_on : ℕ → Bool
goes_on byte = nat_le 128 byte && nat_le byte 191

abbrev pub begins : ℕ → Bool
begins byte = if goes_on byte then false else true

-- the bytes go on with the character before them
abbrev pub go_on : Bytes → Bool
go_on [] = false
go_on (byte ∷ bytes) = goes_on byte

-- the characters with a byte before the first of them
abbrev pub with_byte : ℕ → Texts → Texts
with_byte byte [] = (byte ∷ []) ∷ []
with_byte byte (first ∷ rest) = (byte ∷ first) ∷ rest

-- a byte is one character with the bytes that go on behind it
unfoldable pub characters : Bytes → Texts
characters [] = []
characters (byte ∷ bytes) = if go_on bytes then with_byte byte (characters bytes) else (byte ∷ []) ∷ characters bytes

-- how many characters there are
abbrev pub character_count : Bytes → ℕ
character_count bytes = length (characters bytes)

-- the place at which the character of an index begins: so many bytes have those before it. The place at the index that
-- is their number is the text's length, and beyond there is none.
unfoldable pub character_place : Bytes → ℕ → Option ℕ
character_place bytes index =
    if nat_le index (character_count bytes) then Some (length (concat (take index (characters bytes)))) else None

-- ---- laws

-- bytes that are one character: a first one, and others that go on
abbrev pub IsCharacter : Bytes → Type 0
IsCharacter [] = ⊥
IsCharacter (byte ∷ bytes) = list_all goes_on bytes ≡ true

-- each of these is a character, so that none is empty, and behind each a new one begins
abbrev pub AreCharacters : Texts → Type 0
AreCharacters [] = Unit {0}
AreCharacters (first ∷ rest) = IsCharacter first × (go_on (concat rest) ≡ false) × AreCharacters rest

-- the characters of a text are such, and joined they are the text
abbrev pub CharactersJoin : Type 0
CharactersJoin = (bytes : Bytes) → AreCharacters (characters bytes) × (concat (characters bytes) ≡ bytes)

-- no other list is so
abbrev pub CharactersAreUnique : Type 0
CharactersAreUnique = (texts : Texts) → AreCharacters texts → characters (concat texts) ≡ texts

-- the place of an index cuts the text into the characters before the index and those from it on
abbrev pub PlacesCut : Type 0
PlacesCut = (bytes : Bytes) (index place : ℕ) → character_place bytes index ≡ Some place →
    (characters (take place bytes) ≡ take index (characters bytes))
    × (characters (drop place bytes) ≡ drop index (characters bytes))

-- the characters of a text in UTF-8 are its scalar values, encoded one by one
abbrev pub CharactersAreScalars : Type 0
CharactersAreScalars = (bytes : Bytes) → IsUtf8 bytes → characters bytes ≡ map encode_utf8 (chars bytes)
