-- The forms of the gaps and tokens of a text.
use Rattle.std.specs.Prelude.{ℕ, suc, ◌==◌, ◌||◌, ◌&&◌, ℤ, [], ◌∷◌, Bool, true, false, not, if◌then◌else◌, Option, Some, None, Result, Ok, Err}
use Rattle.std.specs.Char.{is_ascii_alphanumeric}
use Rattle.std.specs.List.{list_all}
use Rattle.std.specs.Option.{option_map}
use Rattle.nl_fixed.specs.Nouns.{Bytes}
pub use Rattle.nl_fixed.specs.Quoted.{quote, backslash, line_feed}
use Rattle.nl_fixed.specs.declared.number.NumFault.{NumFault}
use Rattle.nl_fixed.specs.Spelling.{read_of}
use Rattle.nl_scan.specs.declared.token.Lexeme.{Lexeme}
use Rattle.nl_scan.specs.declared.token.ScanKind.{ScanKind}
use Rattle.nl_scan.specs.declared.pieces.Form.{Form}

-- ---- bytes

-- space, tab, carriage return, line feed
abbrev pub is_space : ℕ → Bool
is_space byte = byte == 32 || byte == 9 || byte == 13 || byte == 10

abbrev pub is_in_line : ℕ → Bool
is_in_line byte = not (byte == line_feed)

abbrev pub semicolon : ℕ
semicolon = 59

-- one of `.?=*!<>:#+/%$_^'&-`
abbrev pub is_mark : ℕ → Bool
is_mark byte =
    byte == 46 || byte == 63 || byte == 61 || byte == 42 || byte == 33 || byte == 60 || byte == 62 || byte == 58 || byte == 35
    || byte == 43 || byte == 47 || byte == 37 || byte == 36 || byte == 95 || byte == 94 || byte == 39 || byte == 38 || byte == 45

-- an ASCII letter or digit, or a mark
abbrev pub is_word_byte : ℕ → Bool
is_word_byte byte = is_ascii_alphanumeric byte || is_mark byte

-- the bracket or parenthesis that a byte is
abbrev pub bracket_of : ℕ → Option Lexeme
bracket_of byte =
    if byte == 91 then Some Lexeme.Open
    else (if byte == 93 then Some Lexeme.Close
    else (if byte == 40 then Some Lexeme.OpenParen
    else (if byte == 41 then Some Lexeme.CloseParen else None)))

-- ---- forms

abbrev pub is_none_left : Bytes → Bool
is_none_left [] = true
is_none_left (byte ∷ rest) = false

-- bytes of one line that end with the first quote that isn't behind a backslash; a backslash and the byte behind it go
-- together, and the test says whether such a backslash stands before these bytes
abbrev pub is_closed : Bool → Bytes → Bool
is_closed behind [] = false
is_closed true (byte ∷ rest) = is_in_line byte && is_closed false rest
is_closed false (byte ∷ rest) = if byte == quote then is_none_left rest else is_in_line byte && is_closed (byte == backslash) rest

abbrev pub is_some_bracket : Option Lexeme → Bool
is_some_bracket (Some lexeme) = true
is_some_bracket None = false

-- whether bytes are a gap or have the form of a token: a space; a comment, which is a semicolon and bytes of its line;
-- a run of word bytes; a text in its quotes; or a bracket
abbrev pub has_form : Form → Bytes → Bool
has_form form [] = false
has_form Form.Space (byte ∷ rest) = is_space byte && is_none_left rest
has_form Form.Comment (byte ∷ rest) = byte == semicolon && list_all is_in_line rest
has_form Form.Word (byte ∷ rest) = is_word_byte byte && list_all is_word_byte rest
has_form Form.Quoted (byte ∷ rest) = byte == quote && is_closed false rest
has_form Form.Bracket (byte ∷ rest) = is_some_bracket (bracket_of byte) && is_none_left rest

-- a text has both its quotes, and any other token a byte
abbrev pub least_length : Lexeme → ℕ
least_length Lexeme.Text = 2
least_length _ = 1

-- ---- what has the form of a token and is none

-- one of `n`, `t`, a backslash and a quote
abbrev pub is_escape : ℕ → Bool
is_escape byte = byte == 110 || byte == 116 || byte == backslash || byte == quote

-- of the bytes behind a text's opening quote, how many stand before the first that no escape has behind its backslash;
-- as many bytes of the text, its quote among them, stand before that backslash
abbrev pub first_bad_escape : Bool → Bytes → Option ℕ
first_bad_escape behind [] = None
first_bad_escape true (byte ∷ rest) = if is_escape byte then option_map suc (first_bad_escape false rest) else Some 0
first_bad_escape false (byte ∷ rest) = option_map suc (first_bad_escape (byte == backslash) rest)

-- what is wrong at a place, and how many bytes stand before it
pub record Flaw : Type 0 where
  pub kind : ScanKind
  pub before : ℕ

abbrev pub word_meaning : Option (Result ℤ NumFault) → Result (Option Lexeme) Flaw
word_meaning None = Ok (Some Lexeme.Word)
word_meaning (Some (Ok number)) = Ok (Some (Lexeme.Number number))
word_meaning (Some (Err fault)) = Err (record { kind = ScanKind.BadNumber; before = 0 })

abbrev pub quoted_meaning : Option ℕ → Result (Option Lexeme) Flaw
quoted_meaning None = Ok (Some Lexeme.Text)
quoted_meaning (Some before) = Err (record { kind = ScanKind.BadEscape; before = before })

abbrev pub meaning_behind : Form → ℕ → Bytes → Result (Option Lexeme) Flaw
meaning_behind Form.Space byte rest = Ok None
meaning_behind Form.Comment byte rest = Ok None
meaning_behind Form.Word byte rest = word_meaning (read_of (byte ∷ rest))
meaning_behind Form.Quoted byte rest = quoted_meaning (first_bad_escape false rest)
meaning_behind Form.Bracket byte rest = Ok (bracket_of byte)

-- the token that bytes of a form are, none for a gap, or why they are no token
abbrev pub meaning_of : Form → Bytes → Result (Option Lexeme) Flaw
meaning_of form [] = Ok None
meaning_of form (byte ∷ rest) = meaning_behind form byte rest
