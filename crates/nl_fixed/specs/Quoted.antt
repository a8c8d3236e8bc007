-- Texts as they are written between quotes.
-- The escapes are four of those of the NetLogo Programming Guide ("Strings").
use Rattle.std.specs.Prelude.{ℕ, ◌==◌, [], ◌∷◌, ◌++◌, if◌then◌else◌, codes}
use Rattle.std.specs.List.{flat_map}
use Rattle.nl_fixed.specs.Nouns.{Bytes}

abbrev pub quote : ℕ
quote = 34

abbrev pub backslash : ℕ
backslash = 92

abbrev pub line_feed : ℕ
line_feed = 10

abbrev pub tab : ℕ
tab = 9

-- a byte as it is written: the line feed, the tab, the backslash and the quote with an escape
abbrev pub written_byte : ℕ → Bytes
written_byte byte =
    if byte == line_feed then codes "\\n"
    else (if byte == tab then codes "\\t"
    else (if byte == backslash then codes "\\\\"
    else (if byte == quote then codes "\\\""
    else byte ∷ [])))

-- what stands between the quotes
abbrev pub written_text : Bytes → Bytes
written_text bytes = flat_map written_byte bytes

abbrev pub quoted_text : Bytes → Bytes
quoted_text bytes = quote ∷ (written_text bytes ++ quote ∷ [])
