use Rattle.std.proofs.Common.{sym, subst}
use Rattle.toml.specs.View.{table_view}
use Rattle.nl_experiment_migrated.specs.Plain.{ArePlain}
use Rattle.nl_experiment_migrated.proofs.Staying.{migrated_plain}
use Rattle.nl_experiment_migrated.proofs.migrate.second_text.Goals as goal

pub text_of-requires : goal.text_of-requires
text_of-requires c =
    let (fields, says) = c.requires in
    subst ArePlain (sym c.in-Ok.ensures) (migrated_plain (table_view c.args.table) fields c.keys_ascend.ensures says)
