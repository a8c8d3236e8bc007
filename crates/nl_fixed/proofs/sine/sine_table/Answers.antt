use Rattle.nl_fixed.proofs.SineTable.{SINES-is, length-sines, sines_increase}
use Rattle.nl_fixed.proofs.sine.sine_table.Goals as goal

pub returns-clause-table : goal.returns-clause-table
returns-clause-table c = SINES-is

pub returns-clause-entries : goal.returns-clause-entries
returns-clause-entries c = length-sines

pub returns-clause-ascending : goal.returns-clause-ascending
returns-clause-ascending c = sines_increase
