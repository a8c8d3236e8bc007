-- Plain members stay plain in format 2.
use Rattle.std.proofs.Common.{◌≡◌, ◌≤◌, ℕ, Bool, true, false, Ordering, Less, Equal, Greater, Ok, cond, refl, arith}
use Rattle.std.specs.Prelude.{if◌then◌else◌, codes, pos}
use Rattle.std.specs.Cmp.Lexicographic.{slice_cmp}
use Rattle.std.specs.Ordering.{match_ordering, nat_cmp}
use Rattle.toml.specs.Data.{Data, integer, string, Members, no_members, member, members_are_sorted, members_depth, get_member, same_key}
use Rattle.nl_fixed.specs.Nouns.{Name}
use Rattle.nl_experiment_fields.specs.File.{fields_in}
use Rattle.nl_experiment_fields.specs.Keys.{every_step_key, format_key, measure_when_key}
use Rattle.nl_experiment_fields.specs.declared.fields.Fields.{Fields}
use Rattle.nl_experiment_migrated.specs.Laws.{DocumentsArePlain}
use Rattle.nl_experiment_migrated.specs.Migrated.{from_first, is_second, is_true, migrated, with_condition, with_member, without}
use Rattle.nl_experiment_migrated.specs.Plain.{ArePlain, is_plain, members_are_plain}
use Rattle.nl_experiment_migrated.proofs.Accepted.{document_fits}
use Rattle.nl_experiment_migrated.proofs.Fitting.{Fit, MembersFit, member_fits}
use Rattle.nl_experiment_migrated.proofs.Saying.{first_of_both, second_of_both}

first_fits : (n : ℕ) (k : Name) (d : Data) (rest : Members) → MembersFit n (member k d rest) → Fit n d
first_fits n k d rest all =
    let most : members_depth (member k d rest) ≤ n = all.1 in
    (first_of_both (is_plain d) (members_are_plain rest) all.0, omega arith)

rest_fits : (n : ℕ) (k : Name) (d : Data) (rest : Members) → MembersFit n (member k d rest) → MembersFit n rest
rest_fits n k d rest all =
    let most : members_depth (member k d rest) ≤ n = all.1 in
    (second_of_both (is_plain d) (members_are_plain rest) all.0, omega arith)

put_by : (n : ℕ) (o : Ordering) (key k : Name) (value d : Data) (rest : Members) → Fit n value → MembersFit n (member k d rest)
    → MembersFit n (with_member key value rest)
    → MembersFit n (match_ordering o (member key value (member k d rest)) (member k value rest) (member k d (with_member key value rest)))
put_by n Less key k value d rest one all more = member_fits n key value (member k d rest) one all
put_by n Equal key k value d rest one all more = member_fits n k value rest one (rest_fits n k d rest all)
put_by n Greater key k value d rest one all more = member_fits n k d (with_member key value rest) (first_fits n k d rest all) more

put_fits : (n : ℕ) (key : Name) (value : Data) (ms : Members) → Fit n value → MembersFit n ms → MembersFit n (with_member key value ms)
put_fits n key value no_members one all = member_fits n key value no_members one all
put_fits n key value (member k d rest) one all =
    put_by n (slice_cmp nat_cmp key k) key k value d rest one all (put_fits n key value rest one (rest_fits n k d rest all))

gone_by : (n : ℕ) (b : Bool) (k : Name) (d : Data) (rest : Members) → Fit n d → MembersFit n rest → MembersFit n (cond b rest (member k d rest))
gone_by n true k d rest one all = all
gone_by n false k d rest one all = member_fits n k d rest one all

gone_fits : (n : ℕ) (key : Name) (ms : Members) → MembersFit n ms → MembersFit n (without key ms)
gone_fits n key no_members all = all
gone_fits n key (member k d rest) all =
    gone_by n (same_key key k) k d (without key rest) (first_fits n k d rest all) (gone_fits n key rest (rest_fits n k d rest all))

condition_fits : (n : ℕ) (b : Bool) (ms : Members) → MembersFit n ms → MembersFit n (with_condition b ms)
condition_fits n true ms all = put_fits n measure_when_key (string (codes "true")) ms (refl, omega arith) all
condition_fits n false ms all = all

second_by : (n : ℕ) (b : Bool) (ms : Members) → MembersFit n ms → MembersFit n (if b then ms else from_first ms)
second_by n true ms all = all
second_by n false ms all =
    put_fits n format_key.name (integer (pos 2)) (with_condition (is_true (get_member every_step_key.name ms)) (without every_step_key.name ms)) (refl, omega arith)
    (condition_fits n (is_true (get_member every_step_key.name ms)) (without every_step_key.name ms) (gone_fits n every_step_key.name ms all))

as_record : (ms : Members) → MembersFit 3 ms → ArePlain ms
as_record ms fits = record { plain = fits.0; shallow = fits.1 }

pub documents_are_plain : DocumentsArePlain
documents_are_plain ms f sorted is = as_record ms (document_fits ms f sorted is)

-- what says an experiment is plain in format 2
pub migrated_plain : (ms : Members) (f : Fields) → members_are_sorted ms ≡ true → fields_in ms ≡ Ok f → ArePlain (migrated ms)
migrated_plain ms f sorted is = as_record (migrated ms) (second_by 3 (is_second (get_member format_key.name ms)) ms (document_fits ms f sorted is))
