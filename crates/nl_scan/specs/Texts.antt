-- The bytes of a token, and its word.
use Rattle.std.specs.Prelude.{◌+◌, ◌≤◌, length, take, drop}
use Rattle.std.specs.Str.{str_to_ascii_lowercase}
use Rattle.nl_fixed.specs.Nouns.{Bytes, Name}
use Rattle.nl_fixed.specs.declared.span.Span.{Span}
use Rattle.nl_scan.specs.declared.token.Token.{Token}

-- a span ends before the end of a text or at it
abbrev pub LiesIn : Bytes → Span → Type 0
LiesIn text span = span.start + span.len ≤ length text

-- the bytes of a text at a span
abbrev pub bytes_at : Bytes → Span → Bytes
bytes_at text span = take span.len (drop span.start text)

-- the bytes of a token
abbrev pub bytes_of : Bytes → Token → Bytes
bytes_of text token = bytes_at text token.span

-- a word as it is compared with others
abbrev pub word_at : Bytes → Span → Name
word_at text span = str_to_ascii_lowercase (bytes_at text span)
