-- The laws on units.
use Rattle.nl_run.proofs.Alike.{steps_bound, steps_follow}
use Rattle.nl_run.proofs.Budgets.{units_are_left}
use Rattle.nl_run.proofs.Spending.{conditions_spend, metrics_spend, texts_spend}
use Rattle.nl_run.proofs.laws.units_bound_runs.Goals as goal

pub returns : goal.returns
returns c = record {
  budget = units_are_left;
  steps = steps_follow;
  most = steps_bound;
  texts = texts_spend;
  metrics = metrics_spend;
  conditions = conditions_spend;
}
