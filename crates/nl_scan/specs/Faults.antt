-- What is wrong with a text, where, and the word of each kind.
use Rattle.std.specs.Prelude.{ℕ, codes}
use Rattle.nl_fixed.specs.Nouns.{Bytes}
use Rattle.nl_scan.specs.declared.token.ScanKind.{ScanKind}

-- a text of more bytes is too long
abbrev pub text_limit : ℕ
text_limit = 4194304

-- a fault and the byte at which it stands
pub record ScanFault : Type 0 where
  pub kind : ScanKind
  pub place : ℕ

-- the word of a kind
abbrev pub scan_kind_text : ScanKind → Bytes
scan_kind_text ScanKind.TooLong = codes "TooLong"
scan_kind_text ScanKind.NotText = codes "NotText"
scan_kind_text ScanKind.BadChar = codes "BadChar"
scan_kind_text ScanKind.OpenText = codes "OpenText"
scan_kind_text ScanKind.BadEscape = codes "BadEscape"
scan_kind_text ScanKind.BadNumber = codes "BadNumber"
