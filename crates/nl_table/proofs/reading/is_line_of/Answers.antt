use Rattle.std.proofs.Common.{sym, ◌∙◌}
use Rattle.csv.specs.Records.{fields_of}
use Rattle.nl_table.proofs.Readings.{ended_line, line_ends, no_line}
use Rattle.nl_table.proofs.reading.is_line_of.Goals as goal

pub returns-in-Some : goal.returns-in-Some
returns-in-Some c = (
  (λ yes. ended_line (fields_of c.args.row.now) c.args.piece.now _ (sym c.in-Some.ensures) (sym c.is_empty.ensures ∙ yes)),
  (λ is. c.is_empty.ensures ∙ line_ends (fields_of c.args.row.now) c.args.piece.now _ (sym c.in-Some.ensures) is),
)

pub returns-in-None : goal.returns-in-None
returns-in-None c =
    ((λ yes. absurd (cc yes)), (λ is. absurd (no_line (fields_of c.args.row.now) c.args.piece.now (sym c.in-None.ensures) is)))
