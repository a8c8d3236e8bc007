use Rattle.nl_agents.proofs.Setting.{setting_sets, setting_keeps}
use Rattle.nl_agents.proofs.laws.setting_sets_one.Goals as goal

pub returns : goal.returns
returns c = record { sets = setting_sets; keeps = setting_keeps }
