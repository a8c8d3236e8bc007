-- The tokens of a text and its fault, as relations on the whole text; and the laws that tie what is computed to them.
use Rattle.std.specs.Prelude.{◌≡◌, ℕ, ◌+◌, ◌≤◌, ◌<◌, ◌==◌, ◌⊎◌, ◌↔◌, List, [], ◌∷◌, ◌++◌, length, take, drop, true, if◌then◌else◌, Option, Some, None, Result, Ok, Err}
use Rattle.std.specs.Str.{IsUtf8}
use Rattle.std.specs.Str.Lossy.{utf8_valid_len}
use Rattle.nl_fixed.specs.Nouns.{Bytes}
use Rattle.nl_scan.specs.declared.token.Lexeme.{Lexeme}
use Rattle.nl_scan.specs.declared.token.Token.{Token}
use Rattle.nl_scan.specs.declared.token.ScanKind.{ScanKind}
use Rattle.nl_scan.specs.declared.pieces.Form.{Form}
use Rattle.nl_scan.specs.Forms.{Flaw, has_form, meaning_of, quote}
use Rattle.nl_scan.specs.Texts.{bytes_of}
use Rattle.nl_scan.specs.Tokens.{ScanFault, text_limit, tokens_of}

-- a stretch of a text, and the form that it has
pub record Stretch : Type 0 where
  pub form : Form
  pub bytes : Bytes

-- it begins a text, and nothing longer that has a form does
pub record IsFirst (text : Bytes) (stretch : Stretch) : Type 0 where
  pub begins : stretch.bytes ≡ take (length stretch.bytes) text
  pub formed : has_form stretch.form stretch.bytes ≡ true
  pub longest : (form : Form) (n : ℕ) → n ≤ length text → has_form form (take n text) ≡ true → n ≤ length stretch.bytes

-- it is a gap or a token
abbrev pub IsSound : Stretch → Type 0
IsSound stretch = (lexeme : Option Lexeme) × (meaning_of stretch.form stretch.bytes ≡ Ok lexeme)

-- a text is these gaps and tokens, each the longest that stands at its place, and then what is behind them
abbrev pub IsCutTo : Bytes → List Stretch → Bytes → Type 0
IsCutTo text [] behind = text ≡ behind
IsCutTo text (stretch ∷ stretches) behind = IsFirst text stretch × IsSound stretch × IsCutTo (drop (length stretch.bytes) text) stretches behind

-- a text is these gaps and tokens
abbrev pub IsCut : Bytes → List Stretch → Type 0
IsCut text stretches = IsCutTo text stretches []

abbrev pub joined : List Stretch → Bytes
joined [] = []
joined (stretch ∷ stretches) = stretch.bytes ++ joined stretches

-- a token before others, where there is one
abbrev pub token_before : Result (Option Lexeme) Flaw → ℕ → ℕ → List Token → List Token
token_before (Ok (Some lexeme)) at len tokens = record { lexeme = lexeme; span = record { start = at; len = len } } ∷ tokens
token_before (Ok None) at len tokens = tokens
token_before (Err flaw) at len tokens = tokens

-- the tokens among gaps and tokens that begin at a place
abbrev pub tokens_in : ℕ → List Stretch → List Token
tokens_in at [] = []
tokens_in at (stretch ∷ stretches) =
    token_before (meaning_of stretch.form stretch.bytes) at (length stretch.bytes) (tokens_in (at + length stretch.bytes) stretches)

-- what has the form of a token begins a text, and is none
abbrev pub IsFlawed : Bytes → Flaw → Type 0
IsFlawed text flaw = (stretch : Stretch) × IsFirst text stretch × (meaning_of stretch.form stretch.bytes ≡ Err flaw)

-- a quote that nothing closes on its line, or a byte that belongs to nothing
abbrev pub kind_of_first : Bytes → ScanKind
kind_of_first [] = ScanKind.BadChar
kind_of_first (byte ∷ rest) = if byte == quote then ScanKind.OpenText else ScanKind.BadChar

-- nothing that has a form begins a text, and there is more of it
abbrev pub IsUnformed : Bytes → Flaw → Type 0
IsUnformed text flaw =
    (0 < length text) × ((form : Form) (n : ℕ) → n ≤ length text → has_form form (take n text) ≡ true → ⊥) × (flaw ≡ record { kind = kind_of_first text; before = 0 })

-- neither a gap nor a token begins a text, for this reason
abbrev pub IsFlaw : Bytes → Flaw → Type 0
IsFlaw text flaw = IsFlawed text flaw ⊎ IsUnformed text flaw

-- gaps and tokens go so far, and then there is a fault
abbrev pub IsCutToFault : Bytes → ScanFault → Type 0
IsCutToFault text fault =
    (stretches : List Stretch) × (behind : Bytes) × (flaw : Flaw) × IsCutTo text stretches behind × IsFlaw behind flaw
    × (fault ≡ record { kind = flaw.kind; place = length (joined stretches) + flaw.before })

-- ---- the whole

-- a text that is not too long and is UTF-8 has these tokens
abbrev pub IsTokens : Bytes → List Token → Type 0
IsTokens text tokens = (length text ≤ text_limit) × IsUtf8 text × ((stretches : List Stretch) × IsCut text stretches × (tokens ≡ tokens_in 0 stretches))

abbrev pub IsTooLong : Bytes → ScanFault → Type 0
IsTooLong text fault = (text_limit < length text) × (fault ≡ record { kind = ScanKind.TooLong; place = text_limit })

abbrev pub IsNotText : Bytes → ScanFault → Type 0
IsNotText text fault =
    (length text ≤ text_limit) × (IsUtf8 text → ⊥) × (fault ≡ record { kind = ScanKind.NotText; place = utf8_valid_len text })

abbrev pub IsMiscut : Bytes → ScanFault → Type 0
IsMiscut text fault = (length text ≤ text_limit) × IsUtf8 text × IsCutToFault text fault

-- a text has this fault: it is too long; else it isn't UTF-8; else gaps and tokens end at it
abbrev pub IsFault : Bytes → ScanFault → Type 0
IsFault text fault = IsTooLong text fault ⊎ (IsNotText text fault ⊎ IsMiscut text fault)

-- ---- laws

-- a text is cut in one way at most
abbrev pub TextsAreCutOnce : Type 0
TextsAreCutOnce = (text : Bytes) (a b : List Stretch) → IsCut text a → IsCut text b → a ≡ b

-- its gaps and tokens, joined, are the text
abbrev pub StretchesJoin : Type 0
StretchesJoin = (text : Bytes) (stretches : List Stretch) → IsCut text stretches → joined stretches ≡ text

-- a text has one fault at most, and has one exactly where it has no tokens
abbrev pub FaultsAreUnique : Type 0
FaultsAreUnique = (text : Bytes) (a b : ScanFault) → IsFault text a → IsFault text b → a ≡ b

abbrev pub FaultOrTokens : Type 0
FaultOrTokens = (text : Bytes) → ((fault : ScanFault) × IsFault text fault) ↔ ((tokens : List Token) → IsTokens text tokens → ⊥)

-- what is computed are the tokens and the fault
abbrev pub TokensAreComputed : Type 0
TokensAreComputed = (text : Bytes) (tokens : List Token) → (tokens_of text ≡ Ok tokens) ↔ IsTokens text tokens

abbrev pub FaultsAreComputed : Type 0
FaultsAreComputed = (text : Bytes) (fault : ScanFault) → (tokens_of text ≡ Err fault) ↔ IsFault text fault

-- a token is what its bytes say: they have a form that means it
abbrev pub IsMeant : Bytes → Token → Type 0
IsMeant text token =
    (form : Form) × (has_form form (bytes_of text token) ≡ true) × (meaning_of form (bytes_of text token) ≡ Ok (Some token.lexeme))

abbrev pub AreMeant : Bytes → List Token → Type 0
AreMeant text [] = Unit {0}
AreMeant text (token ∷ tokens) = IsMeant text token × AreMeant text tokens

-- each token of a text is what its bytes say
abbrev pub TokensAreMeant : Type 0
TokensAreMeant = (text : Bytes) (tokens : List Token) → tokens_of text ≡ Ok tokens → AreMeant text tokens
