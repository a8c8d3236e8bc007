-- The tokens of a text, computed, and what holds of all of them.
use Rattle.std.specs.Prelude.{◌≡◌, ℕ, ◌+◌, ◌≤◌, List, [], ◌∷◌, length, nat_lt, if◌then◌else◌, Some, unwrap_or, Result, Ok, Err, slice_get}
use Rattle.std.specs.Option.{option_map}
use Rattle.std.specs.Str.{IsUtf8, is_utf8}
use Rattle.std.specs.Str.Lossy.{utf8_valid_len}
use Rattle.nl_fixed.specs.Nouns.{Bytes}
use Rattle.nl_scan.specs.declared.token.Token.{Token}
use Rattle.nl_scan.specs.declared.token.ScanKind.{ScanKind}
use Rattle.nl_scan.specs.declared.token.ScanRefusal.{ScanRefusal}
pub use Rattle.nl_scan.specs.Faults.{ScanFault, text_limit}
pub use Rattle.nl_scan.specs.Forms.{least_length}
pub use Rattle.nl_scan.specs.inner.Pieces.{cut_from}

-- the tokens of a text, or its first fault; each piece has a byte at least, so there is room for all of them
unfoldable pub tokens_of : Bytes → Result (List Token) ScanFault
tokens_of text =
    if nat_lt text_limit (length text) then Err (record { kind = ScanKind.TooLong; place = text_limit })
    else (if is_utf8 text then cut_from (length text) 0 text
    else Err (record { kind = ScanKind.NotText; place = utf8_valid_len text }))

-- a text is neither too long nor anything but text
abbrev pub IsText : Bytes → Type 0
IsText text = (length text ≤ text_limit) × IsUtf8 text

-- the tokens ascend from a place on, don't overlap, have their least length, and end before another place or at it
abbrev pub AreInOrder : ℕ → ℕ → List Token → Type 0
AreInOrder from end [] = from ≤ end
AreInOrder from end (token ∷ tokens) =
    (from ≤ token.span.start) × (least_length token.lexeme ≤ token.span.len) × AreInOrder (token.span.start + token.span.len) end tokens

-- a call gives what is defined, or wants memory
abbrev pub Scans : Result (List Token) ScanFault → Result (List Token) ScanRefusal → Type 0
Scans defined (Ok tokens) = defined ≡ Ok tokens
Scans defined (Err (ScanRefusal.Fault kind place)) = defined ≡ Err (record { kind = kind; place = place })
Scans defined (Err ScanRefusal.NoMemory) = Unit {0}

-- a token is one of those of a text
abbrev pub IsTokenOf : Bytes → Token → Type 0
IsTokenOf text token = (tokens : List Token) × (k : ℕ) × (tokens_of text ≡ Ok tokens) × (slice_get tokens k ≡ Some token)

-- the place at which the token of an index begins, or the text's end where there is none
abbrev pub start_of : Bytes → List Token → ℕ → ℕ
start_of text tokens index = unwrap_or (option_map (λ token. token.span.start) (slice_get tokens index)) (length text)
