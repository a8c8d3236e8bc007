-- What the texts of a run are called.
use Rattle.nl_fixed.specs.Nouns.{Bytes}
use Rattle.nl_run.specs.Course.{setup_name, go_name, until_name, when_name, metric_name}
use Rattle.nl_run.specs.declared.errors.Called.{Called}
use Rattle.nl_run.specs.declared.errors.Called.TheVariants as called

abbrev pub called_name : Called → Bytes
called_name called.Setup = setup_name
called_name called.Go = go_name
called_name called.Until = until_name
called_name called.When = when_name
called_name (called.Metric number) = metric_name number
