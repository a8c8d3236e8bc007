use Rattle.std.proofs.Common.{◌≡◌, ◌≤◌, ℕ, Err, false, Vec, Global, ap, sym, subst, ◌∙◌, arith}
use Rattle.std.specs.String.{string_bytes}
use Rattle.std.proofs.lemmas.Bool.{false≢true}
use Rattle.std.proofs.lemmas.Str.{IsUtf8-string_bytes}
use Rattle.toml.specs.Data.{members_depth, members_have_valid_dates}
use Rattle.toml.specs.View.{table_view}
use Rattle.nl_experiment_migrated.specs.Migrated.{IsTextOf}
use Rattle.nl_experiment_migrated.proofs.Writing.{plain_dates, read_as}
use Rattle.nl_experiment_migrated.proofs.migrate.text_of.Goals as goal

pub unreachable-requires : goal.unreachable-requires
unreachable-requires c =
    let bad : members_have_valid_dates (table_view c.args.table.now) ≡ false =
    c.table_to_string.ensures.dates.0 (c.in-Err-DateInvalid.is ∙ ap Err c.in-Err-DateInvalid.field-0-is) in
    false≢true (sym bad ∙ plain_dates (table_view c.args.table.now) c.requires.plain)

pub returns-in-Ok-clause-text : goal.returns-in-Ok-clause-text
returns-in-Ok-clause-text c =
    let shallow : members_depth (table_view c.args.table.now) ≤ 3 = c.requires.shallow in
    let deep : members_depth (table_view c.args.table.now) ≤ 80 = omega arith in
    let same : c.of_vec.result ≡ string_bytes c.in-Ok.text = c.of_vec.ensures ∙ ap (λ (v : Vec ℕ Global). v.items) c.into_bytes.ensures.value in
    subst (IsTextOf (table_view c.args.table.now)) (sym same) (record {
      plain = c.requires;
      written = c.in-Ok.ensures.text;
      reads = read_as (string_bytes c.in-Ok.text) (IsUtf8-string_bytes c.in-Ok.text) ∙ c.in-Ok.ensures.reads_back deep;
    })
