use Rattle.std.proofs.Common.{ap, ◌∙◌}
use Rattle.toml.specs.View.{members_view}
use Rattle.nl_experiment_migrated.proofs.Putting.{taken_from}
use Rattle.nl_experiment_migrated.proofs.tables.take.Goals as goal

pub returns : goal.returns
returns c = ap members_view c.remove-gone.ensures.entries ∙ taken_from c.args.key.now c.args.table.now.entries c.len-entries.ensures.ordered
