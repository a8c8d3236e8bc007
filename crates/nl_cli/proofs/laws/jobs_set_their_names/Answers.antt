use Rattle.nl_cli.proofs.SetNames.{jobs_set_their_names}
use Rattle.nl_cli.proofs.laws.jobs_set_their_names.Goals as goal

pub returns : goal.returns
returns c = jobs_set_their_names
