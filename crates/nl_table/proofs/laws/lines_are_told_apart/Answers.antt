use Rattle.nl_table.proofs.Counts.{lines_are_one, headers_have_six_lines}
use Rattle.nl_table.proofs.laws.lines_are_told_apart.Goals as goal

pub returns-clause-one : goal.returns-clause-one
returns-clause-one c = lines_are_one

pub returns-clause-six : goal.returns-clause-six
returns-clause-six c = headers_have_six_lines
