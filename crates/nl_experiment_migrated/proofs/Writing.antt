-- A plain document holds no date, so its writer refuses none.
use Rattle.std.proofs.Common.{◌≡◌, Bool, true, false, refl, eq-eqb}
use Rattle.std.specs.Prelude.{◌&&◌}
use Rattle.std.specs.Str.{IsUtf8}
use Rattle.std.proofs.lemmas.Str.{utf8_valid_len-IsUtf8}
use Rattle.toml.specs.Data.{Data, string, integer, float, boolean, datetime, array, table, Items, no_items, item, Members, no_members, member, has_valid_dates, items_have_valid_dates, members_have_valid_dates}
use Rattle.toml.specs.Parse.{parse_document}
use Rattle.nl_fixed.specs.Nouns.{Bytes}
use Rattle.nl_experiment_keys.specs.Document.{document}
use Rattle.nl_experiment_migrated.specs.Plain.{is_plain, items_are_plain, members_are_plain}

pair : (a b c d : Bool) → (a ≡ true → c ≡ true) → (b ≡ true → d ≡ true) → (a && b) ≡ true → (c && d) ≡ true
pair true b true d one two is = two is
pair true b false d one two is = one refl
pair false b c d one two is = absurd (cc)

mutual
  dates : (d : Data) → is_plain d ≡ true → has_valid_dates d ≡ true
  dates (string x) plain = refl
  dates (integer x) plain = refl
  dates (float x) plain = refl
  dates (boolean x) plain = refl
  dates (datetime x) plain = absurd (cc)
  dates (array ds) plain = items_dates ds plain
  dates (table ms) plain = plain_dates ms plain

  items_dates : (ds : Items) → items_are_plain ds ≡ true → items_have_valid_dates ds ≡ true
  items_dates no_items plain = refl
  items_dates (item d ds) plain = pair (is_plain d) (items_are_plain ds) (has_valid_dates d) (items_have_valid_dates ds) (dates d) (items_dates ds) plain

  pub plain_dates : (ms : Members) → members_are_plain ms ≡ true → members_have_valid_dates ms ≡ true
  plain_dates no_members plain = refl
  plain_dates (member k d ms) plain =
      pair (is_plain d) (members_are_plain ms) (has_valid_dates d) (members_have_valid_dates ms) (dates d) (plain_dates ms) plain

-- a text in UTF-8 is read as a document
pub read_as : (text : Bytes) → IsUtf8 text → document text ≡ parse_document text
read_as text utf8 = rw (eq-eqb _ _ (utf8_valid_len-IsUtf8 text utf8))
