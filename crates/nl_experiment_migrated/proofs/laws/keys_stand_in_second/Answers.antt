use Rattle.nl_experiment_migrated.proofs.Saying.{condition_there, every_step_gone, format_there, others_stay}
use Rattle.nl_experiment_migrated.proofs.laws.keys_stand_in_second.Goals as goal

pub returns : goal.returns
returns c members = record {
  format = format_there members;
  every_step = every_step_gone members;
  condition = condition_there members;
  others = others_stay members;
}
