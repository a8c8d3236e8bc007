-- What is written with the four escapes is read as what it was written from.
use Rattle.std.specs.Prelude.{◌≡◌, ◌++◌, length, false, [], ◌∷◌, Ok, Some}
use Rattle.nl_fixed.specs.Nouns.{Bytes}
use Rattle.nl_fixed.specs.Quoted.{written_text, quoted_text}
use Rattle.nl_scan.specs.declared.token.Lexeme.{Lexeme}
use Rattle.nl_scan.specs.declared.token.Token.{Token}
use Rattle.nl_scan.specs.declared.pieces.Form.{Form}
use Rattle.nl_scan.specs.Contents.{resolved, content_of}
use Rattle.nl_scan.specs.Cuts.{IsFirst}
use Rattle.nl_scan.specs.Forms.{meaning_of}
use Rattle.nl_scan.specs.Texts.{LiesIn, bytes_of}
use Rattle.nl_scan.specs.Tokens.{IsText, tokens_of, IsTokenOf}

-- with its escapes resolved, what is written of any bytes is these bytes
abbrev pub WrittenSays : Type 0
WrittenSays = (bytes : Bytes) → resolved false (written_text bytes) ≡ bytes

-- a token that is these bytes between quotes says them
abbrev pub QuotedSays : Type 0
QuotedSays =
    (text bytes : Bytes) (token : Token) → LiesIn text token.span
    → bytes_of text token ≡ quoted_text bytes → content_of text token ≡ bytes

-- wherever bytes between quotes begin a text, they are its first token, and that is a text
abbrev pub QuotedIsFirst : Type 0
QuotedIsFirst =
    (bytes behind : Bytes) → IsFirst (quoted_text bytes ++ behind) (record { form = Form.Quoted; bytes = quoted_text bytes })
    × (meaning_of Form.Quoted (quoted_text bytes) ≡ Ok (Some Lexeme.Text))

-- bytes between quotes are one token, where they are UTF-8 and not too many
abbrev pub QuotedIsOneToken : Type 0
QuotedIsOneToken =
    (bytes : Bytes) → IsText (quoted_text bytes)
    → tokens_of (quoted_text bytes) ≡ Ok (record { lexeme = Lexeme.Text; span = record { start = 0; len = length (quoted_text bytes) } } ∷ [])

-- each token of a text lies in it
abbrev pub TokensLieIn : Type 0
TokensLieIn = (text : Bytes) (token : Token) → IsTokenOf text token → LiesIn text token.span
