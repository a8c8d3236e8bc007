use Rattle.nl_lanes.proofs.Orders.{enough_units_give_in_order, one_lane_gives_in_order, rounds_give_all}
use Rattle.nl_lanes.proofs.laws.rounds_give_all_texts.Goals as goal

pub returns-clause-all : goal.returns-clause-all
returns-clause-all c = rounds_give_all

pub returns-clause-one : goal.returns-clause-one
returns-clause-one c = one_lane_gives_in_order

pub returns-clause-enough : goal.returns-clause-enough
returns-clause-enough c = enough_units_give_in_order
