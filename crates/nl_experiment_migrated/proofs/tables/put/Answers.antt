use Rattle.std.proofs.Common.{ap, ◌∙◌}
use Rattle.toml.specs.View.{members_view, table_view, view}
use Rattle.nl_experiment_migrated.specs.Migrated.{with_member}
use Rattle.nl_experiment_migrated.proofs.Putting.{put_in}
use Rattle.nl_experiment_migrated.proofs.tables.put.Goals as goal

pub returns-in-Ok : goal.returns-in-Ok
returns-in-Ok c =
    ap members_view c.in-Ok.ensures.entries ∙ put_in c.args.table.now.entries c.in_ok-key.key c.args.value
    ∙ ap (λ k. with_member k (view c.args.value) (table_view c.args.table.now)) c.in_ok-key.ensures.ok
