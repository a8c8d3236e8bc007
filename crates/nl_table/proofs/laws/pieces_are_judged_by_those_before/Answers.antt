use Rattle.nl_table.proofs.ReachedOnce.{fronts_of_rows_reach, misfits_stay, reach_is_one, rows_stay_due}
use Rattle.nl_table.proofs.laws.pieces_are_judged_by_those_before.Goals as goal

pub returns-clause-one : goal.returns-clause-one
returns-clause-one c = reach_is_one

pub returns-clause-misfits : goal.returns-clause-misfits
returns-clause-misfits c = misfits_stay

pub returns-clause-rows : goal.returns-clause-rows
returns-clause-rows c = rows_stay_due

pub returns-clause-fronts : goal.returns-clause-fronts
returns-clause-fronts c = fronts_of_rows_reach
