-- Texts of documents.
use Rattle.std.proofs.Common.{◌≡◌, ℕ, List, eq-eqb}
use Rattle.std.specs.Str.{IsUtf8}
use Rattle.std.proofs.lemmas.Str.{utf8_valid_len-IsUtf8}
use Rattle.toml.specs.Parse.{parse_document}
use Rattle.nl_experiment_keys.specs.Document.{document}

-- a text in UTF-8 is read as a document
pub document-parse_document : (text : List ℕ) → IsUtf8 text → document text ≡ parse_document text
document-parse_document text utf8 = rw (eq-eqb _ _ (utf8_valid_len-IsUtf8 text utf8))
