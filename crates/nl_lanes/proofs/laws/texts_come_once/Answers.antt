use Rattle.nl_lanes.proofs.Counts.{all_ended_give_all, ended_give, no_text_twice, runs_are_once, texts_are_of_runs}
use Rattle.nl_lanes.proofs.Orders.{one_lane_is_in_order}
use Rattle.nl_lanes.proofs.laws.texts_come_once.Goals as goal

pub returns-clause-once : goal.returns-clause-once
returns-clause-once c = runs_are_once

pub returns-clause-own : goal.returns-clause-own
returns-clause-own c = texts_are_of_runs

pub returns-clause-twice : goal.returns-clause-twice
returns-clause-twice c = no_text_twice

pub returns-clause-ended : goal.returns-clause-ended
returns-clause-ended c = ended_give

pub returns-clause-all : goal.returns-clause-all
returns-clause-all c = all_ended_give_all

pub returns-clause-order : goal.returns-clause-order
returns-clause-order c = one_lane_is_in_order
