-- The tokens of a text as plain data: words in lower case, and texts with their escapes resolved.
use Rattle.std.specs.Prelude.{List, map}
use Rattle.nl_fixed.specs.Nouns.{Bytes}
use Rattle.nl_scan.specs.Contents.{content_of}
use Rattle.nl_scan.specs.Texts.{word_at}
use Rattle.nl_scan.specs.declared.token.Token.{Token}
use Rattle.nl_scan.specs.declared.token.Lexeme.TheVariants as scanned
use Rattle.nl_scan.specs.declared.token.Lexeme as s
use Rattle.nl_tree.specs.Tokens as plain

abbrev pub lexeme_as : Bytes → Token → s.Lexeme → plain.Lexeme
lexeme_as text t scanned.Word = plain.Word (word_at text t.span)
lexeme_as text t (scanned.Number n) = plain.Number n
lexeme_as text t scanned.Text = plain.Text (content_of text t)
lexeme_as text t scanned.Open = plain.Open
lexeme_as text t scanned.Close = plain.Close
lexeme_as text t scanned.OpenParen = plain.OpenParen
lexeme_as text t scanned.CloseParen = plain.CloseParen

abbrev pub lexeme_of : Bytes → Token → plain.Lexeme
lexeme_of text t = lexeme_as text t t.lexeme

abbrev pub lexemes_of : Bytes → List Token → List plain.Lexeme
lexemes_of text ts = map (lexeme_of text) ts

-- with their spans
abbrev pub plain_token : Bytes → Token → plain.Token
plain_token text t = record { lexeme = lexeme_of text t; span = t.span }

abbrev pub plain_tokens : Bytes → List Token → List plain.Token
plain_tokens text ts = map (plain_token text) ts
