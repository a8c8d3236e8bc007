use Rattle.std.proofs.Common.{refl}
use Rattle.nl_words.specs.Rows.{rows}
use Rattle.nl_words.proofs.RowsTable.{rows_are_a_table, rows_fit}
use Rattle.nl_words.proofs.base.base_words.Goals as goal

-- the rows in the program are the defined ones, row by row
pub returns-clause-rows : goal.returns-clause-rows
unfolding rows
returns-clause-rows c = refl

pub returns-clause-table : goal.returns-clause-table
unfolding rows
returns-clause-table c = rows_are_a_table

pub returns-clause-fitting : goal.returns-clause-fitting
unfolding rows
returns-clause-fitting c = rows_fit

pub invariant_of-result : goal.invariant_of-result
unfolding rows
invariant_of-result c = (refl, rows_are_a_table)
