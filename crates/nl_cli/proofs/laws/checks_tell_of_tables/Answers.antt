use Rattle.nl_cli.proofs.TableLaws.{checks_tell_of_tables}
use Rattle.nl_cli.proofs.laws.checks_tell_of_tables.Goals as goal

pub returns : goal.returns
returns c = checks_tell_of_tables
