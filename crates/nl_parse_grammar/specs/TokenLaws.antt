-- The law of the plain tokens of a text.
use Rattle.std.specs.Prelude.{◌≡◌, List, Ok, All}
use Rattle.nl_fixed.specs.Nouns.{Bytes}
use Rattle.nl_scan.specs.Tokens.{tokens_of}
use Rattle.nl_scan.specs.declared.token.Token.{Token}
use Rattle.nl_tree.specs.Tokens.{IsToken}
use Rattle.nl_parse_grammar.specs.Texts.{plain_tokens}

-- the tokens of a text are what a text can have: each word in lower case has a name's form, and the content of each text is UTF-8
abbrev pub TokensArePlain : Type 0
TokensArePlain = (text : Bytes) (ts : List Token) → tokens_of text ≡ Ok ts → All IsToken (plain_tokens text ts)
