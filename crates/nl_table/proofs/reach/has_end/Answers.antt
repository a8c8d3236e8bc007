use Rattle.std.proofs.Common.{◌-◌, ap, sym, ◌∙◌, not}
use Rattle.csv.specs.Records.{field_at, fields_of}
use Rattle.nl_table.proofs.Reaching.{last_there, last_missing}
use Rattle.nl_table.proofs.reach.has_end.Goals as goal

pub returns-in-Some : goal.returns-in-Some
returns-in-Some c =
    ap not c.is_empty.ensures
    ∙ last_there (fields_of c.args.row.now) c.in-Some.last.now (ap (λ n. field_at (fields_of c.args.row.now) (n - 1)) (sym c.len-columns.ensures) ∙ sym c.in-Some.ensures.value)

pub returns-in-None : goal.returns-in-None
returns-in-None c =
    last_missing (fields_of c.args.row.now) (ap (λ n. field_at (fields_of c.args.row.now) (n - 1)) (sym c.len-columns.ensures) ∙ sym c.in-None.ensures.value)
