-- Where the pieces of a text begin.
use Rattle.std.specs.Prelude.{ℕ, [], ◌∷◌, if◌then◌else◌, length, take}
use Rattle.std.specs.List.{concat}
use Rattle.nl_fixed.specs.Nouns.{Bytes, Texts}
use Rattle.nl_fixed.specs.Characters.{goes_on}

-- how many bytes the first so many have
abbrev pub before : Texts → ℕ → ℕ
before pieces n = length (concat (take n pieces))

-- the bytes from the first one on that begins a character
abbrev pub skipped : Bytes → Bytes
skipped [] = []
skipped (byte ∷ bytes) = if goes_on byte then skipped bytes else byte ∷ bytes
