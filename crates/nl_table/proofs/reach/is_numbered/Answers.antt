use Rattle.std.proofs.Common.{sym, ◌∙◌}
use Rattle.csv.specs.Records.{fields_of}
use Rattle.nl_table.proofs.Reaching.{numbered_told, no_first}
use Rattle.nl_table.proofs.reach.is_numbered.Goals as goal

pub returns-in-Some : goal.returns-in-Some
returns-in-Some c =
    numbered_told (fields_of c.args.row.now) c.in-Some.first.now c.args.number.now c.args.columns c.eq.result (sym c.len.ensures ∙ c.if-len-columns.false)
    (sym c.in-Some.ensures.value) c.eq.ensures

pub returns-in-None : goal.returns-in-None
returns-in-None c = no_first (fields_of c.args.row.now) c.args.number.now c.args.columns (sym c.in-None.ensures.value)
