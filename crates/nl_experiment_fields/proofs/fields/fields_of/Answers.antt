use Rattle.toml.specs.View.{table_view}
use Rattle.nl_experiment_fields.proofs.Writing.{fields_are_written}
use Rattle.nl_experiment_fields.proofs.fields.fields_of.Goals as goal

pub returns-clause-written : goal.returns-clause-written
returns-clause-written c = fields_are_written (table_view c.in_ok-table.table) c.fields_in.result c.fields_in.ensures.reads
