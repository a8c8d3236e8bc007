-- The laws on rows.
use Rattle.nl_run.proofs.RowLaws.{rows_are_right}
use Rattle.nl_run.proofs.laws.rows_say_one_run.Goals as goal

pub returns : goal.returns
returns c = record {
  last = λ j. (rows_are_right j).0;
  rise = λ j. (rows_are_right j).1;
}
