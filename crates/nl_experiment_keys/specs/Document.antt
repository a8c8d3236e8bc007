-- The document that a file is.
use Rattle.std.specs.Prelude.{◌==◌, if◌then◌else◌, [], length, nat_lt, Option, Some, None, Result, Ok, Err, ℕ}
use Rattle.std.specs.Str.Lossy.{utf8_valid_len}
use Rattle.toml.specs.Data.{Members}
use Rattle.toml.specs.Parse.{parse_document}
use Rattle.nl_fixed.specs.Nouns.{Bytes}
use Rattle.nl_experiment_keys.specs.declared.faults.PlanKind.TheVariants.{TooLong, NotToml}
use Rattle.nl_experiment_keys.specs.declared.faults.KeyFault.{KeyFault}
use Rattle.nl_experiment_keys.specs.Reading.{fault_at}

-- a file of more bytes is too long
abbrev pub file_limit : ℕ
file_limit = 4194304

-- the members of a document, if a text is one
abbrev pub document : Bytes → Option Members
document text = if utf8_valid_len text == length text then parse_document text else None

abbrev pub document_or_fault : Option Members → Result Members KeyFault
document_or_fault (Some members) = Ok members
document_or_fault None = Err (fault_at [] NotToml)

-- what a file holds; a fault of the whole file has the empty key
unfoldable pub file_holds : Bytes → Result Members KeyFault
file_holds text = if nat_lt file_limit (length text) then Err (fault_at [] TooLong) else document_or_fault (document text)
