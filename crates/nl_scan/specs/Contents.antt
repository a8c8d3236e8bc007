-- What a text token says.
use Rattle.std.specs.Prelude.{ℕ, ◌+◌, ◌-◌, ◌==◌, [], ◌∷◌, take, drop, Bool, true, false, if◌then◌else◌}
use Rattle.nl_fixed.specs.Nouns.{Bytes}
use Rattle.nl_scan.specs.declared.token.Token.{Token}
use Rattle.nl_scan.specs.Forms.{backslash}

-- what a backslash and a byte stand for: a line feed for `n`, a tab for `t`, and else the byte
abbrev pub escaped : ℕ → ℕ
escaped byte = if byte == 110 then 10 else (if byte == 116 then 9 else byte)

-- what stands between quotes, with its escapes resolved; the test says whether a backslash stands before these bytes
-- with which the first of them goes
abbrev pub resolved : Bool → Bytes → Bytes
resolved behind [] = []
resolved true (byte ∷ rest) = escaped byte ∷ resolved false rest
resolved false (byte ∷ rest) = if byte == backslash then resolved true rest else byte ∷ resolved false rest

-- the bytes between the quotes of a text token
abbrev pub between_quotes : Bytes → Token → Bytes
between_quotes text token = take (token.span.len - 2) (drop (token.span.start + 1) text)

-- what a text token says
abbrev pub content_of : Bytes → Token → Bytes
content_of text token = resolved false (between_quotes text token)
