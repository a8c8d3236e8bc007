-- An experiment's file in format 2: the members that its document then has, and the text of them. That this text is the one that the writer of
-- TOML gives, with the keys in byte order and without comments, is this project's own choice.
use Rattle.std.specs.Prelude.{◌≡◌, pos, Bool, true, false, if◌then◌else◌, codes, Option, Some, Ok}
use Rattle.std.specs.Cmp.Lexicographic.{slice_cmp}
use Rattle.std.specs.Ordering.{int_eq, match_ordering, nat_cmp}
use Rattle.toml.specs.Data.{Data, integer, boolean, string, Members, no_members, member, get_member, same_key}
use Rattle.toml.specs.Text.{IsDocumentText}
use Rattle.nl_fixed.specs.Nouns.{Bytes, Name}
use Rattle.nl_experiment_keys.specs.Document.{document, file_holds}
use Rattle.nl_experiment_fields.specs.Keys.{every_step_key, format_key, measure_when_key}
use Rattle.nl_experiment_migrated.specs.Plain.{ArePlain}

-- ---- members

-- with a value at a key, in the order of keys
abbrev pub with_member : Name → Data → Members → Members
with_member key value no_members = member key value no_members
with_member key value (member k d rest) =
    match_ordering (slice_cmp nat_cmp key k) (member key value (member k d rest)) (member k value rest) (member k d (with_member key value rest))

-- without a key
abbrev pub without : Name → Members → Members
without key no_members = no_members
without key (member k d rest) = if same_key key k then without key rest else member k d (without key rest)

-- ---- the members of format 2

abbrev pub is_second : Option Data → Bool
is_second (Some (integer n)) = int_eq n (pos 2)
is_second other = false

abbrev pub is_true : Option Data → Bool
is_true (Some (boolean true)) = true
is_true other = false

-- the condition that is always true, where the metrics were measured at every step
abbrev pub with_condition : Bool → Members → Members
with_condition true members = with_member measure_when_key (string (codes "true")) members
with_condition false members = members

abbrev pub from_first : Members → Members
from_first members =
    with_member format_key.name (integer (pos 2)) (with_condition (is_true (get_member every_step_key.name members)) (without every_step_key.name members))

-- those of format 2 stay
abbrev pub migrated : Members → Members
migrated members = if is_second (get_member format_key.name members) then members else from_first members

-- ---- their text

-- the text that is written for plain members, by which they are read again
pub record IsTextOf (members : Members) (text : Bytes) : Type 0 where
  pub plain : ArePlain members
  pub written : IsDocumentText false members text
  pub reads : document text ≡ Some members

-- the text in format 2 of what a file holds
pub record IsMigrated (file text : Bytes) : Type 0 where
  pub members : Members
  pub held : file_holds file ≡ Ok members
  pub wrote : IsTextOf (migrated members) text
