use Rattle.nl_cli.proofs.TableLaws.{tables_are_in_parts}
use Rattle.nl_cli.proofs.laws.tables_are_in_parts.Goals as goal

pub returns : goal.returns
returns c = tables_are_in_parts
