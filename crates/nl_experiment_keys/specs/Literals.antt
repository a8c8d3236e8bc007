-- Values that are written down: an integer or a truth of TOML, or a string that holds one literal of NetLogo, with gaps and comments around it.
-- What a literal is, is the NetLogo Programming Guide's; its limits are this project's own choice.
use Rattle.std.specs.Prelude.{ℤ, pos, ◌*ℤ◌, Bool, true, false, ◌&&◌, nat_le, if◌then◌else◌, List, [], ◌∷◌, ◌++◌, length, codes, Option, Some, None, Result, Ok, Err}
use Rattle.std.specs.Option.{option_map, option_and_then}
use Rattle.std.specs.Str.{bytes_eq}
use Rattle.nl_fixed.specs.Nouns.{Bytes, Name}
use Rattle.nl_fixed.specs.Numbers.{one, number_at}
use Rattle.nl_scan.specs.Contents.{content_of}
use Rattle.nl_scan.specs.Faults.{ScanFault}
use Rattle.nl_scan.specs.Texts.{word_at}
use Rattle.nl_scan.specs.Tokens.{tokens_of}
use Rattle.nl_scan.specs.declared.token.Lexeme.{Lexeme}
use Rattle.nl_scan.specs.declared.token.Lexeme.TheVariants as lexeme
use Rattle.nl_scan.specs.declared.token.Token.{Token}
use Rattle.nl_value.specs.Colors.{color_named}
use Rattle.nl_value.specs.Limits.{within_limits, most_bytes}
use Rattle.nl_value.specs.Living.{no_life}
use Rattle.nl_value.specs.Plain.{Plain, PlainNumber, PlainTruth, PlainWords, PlainItems, PlainNobody, plains}
use Rattle.nl_value.specs.Text.{text_of}

-- ---- one token

-- a truth, nobody, or the number of a color
abbrev pub named_value : Name → Option Plain
named_value name =
    if bytes_eq name (codes "true") then Some (PlainTruth true)
    else if bytes_eq name (codes "false") then Some (PlainTruth false)
    else if bytes_eq name (codes "nobody") then Some PlainNobody
    else option_map PlainNumber (color_named name)

-- what one token says by itself
abbrev pub token_value : Bytes → Token → Lexeme → Option Plain
token_value text token lexeme.Word = named_value (word_at text token.span)
token_value text token (lexeme.Number count) = Some (PlainNumber count)
token_value text token lexeme.Text = Some (PlainWords (content_of text token))
token_value text token other = None

-- ---- all tokens

-- A value goes to the innermost list that is open. Where none is, it is the whole literal, behind which nothing may stand.
abbrev pub placed : List (List Plain) → Plain → List Token → (List (List Plain) → Option Plain) → Option Plain
placed [] value [] next = Some value
placed [] value (token ∷ tokens) next = None
placed (items ∷ outer) value tokens next = next ((items ++ value ∷ []) ∷ outer)

-- what closes a list: the list is a value
abbrev pub closed : List (List Plain) → List Token → (List (List Plain) → Option Plain) → Option Plain
closed [] tokens next = None
closed (items ∷ outer) tokens next = placed outer (PlainItems (plains items)) tokens next

-- a value that a token is, if it is one
abbrev pub placed_if : List (List Plain) → Option Plain → List Token → (List (List Plain) → Option Plain) → Option Plain
placed_if lists None tokens next = None
placed_if lists (Some value) tokens next = placed lists value tokens next

abbrev pub taken : Bytes → Token → Lexeme → List (List Plain) → List Token → (List (List Plain) → Option Plain) → Option Plain
taken text token lexeme.Open lists tokens next = next ([] ∷ lists)
taken text token lexeme.Close lists tokens next = closed lists tokens next
taken text token lexeme lists tokens next = placed_if lists (token_value text token lexeme) tokens next

-- the literal that tokens are, where these lists are open, the innermost first
abbrev pub literal_from : Bytes → List Token → List (List Plain) → Option Plain
literal_from text [] lists = None
literal_from text (token ∷ tokens) lists = taken text token token.lexeme lists tokens (λ now. literal_from text tokens now)

abbrev pub literal_of_tokens : Bytes → Result (List Token) ScanFault → Option Plain
literal_of_tokens text (Ok tokens) = literal_from text tokens []
literal_of_tokens text (Err fault) = None

-- ---- limits

-- the value lies within the limits on values, and so does its text, as it is told without quotes
abbrev pub is_fit : Plain → Bool
is_fit value = within_limits value && nat_le (length (text_of no_life false value)) most_bytes

abbrev pub fit : Plain → Option Plain
fit value = if is_fit value then Some value else None

-- ---- what stands in the file

-- the literal that a text holds
unfoldable pub literal_of : Bytes → Option Plain
literal_of text = option_and_then fit (literal_of_tokens text (tokens_of text))

-- the number that an integer is
abbrev pub whole_literal : ℤ → Option Plain
whole_literal count = option_map PlainNumber (number_at (count *ℤ pos one))

-- the count of a value that is a number
abbrev pub count_in : Plain → Option ℤ
count_in (PlainNumber count) = Some count
count_in value = None

-- the number that a text holds
abbrev pub number_of_text : Bytes → Option ℤ
number_of_text text = option_and_then count_in (literal_of text)
