use Rattle.std.proofs.Common.{sym}
use Rattle.nl_parse_reading.proofs.classes.class_of_row.Goals as goal

pub returns-in-Reporter : goal.returns-in-Reporter
returns-in-Reporter c = rw (c.in-Reporter.is, sym c.names_of-names.ensures) (c.reporter_by.ensures c.args.name.now)
