use Rattle.nl_cli.proofs.OneAnswer.{answers_are_alike}
use Rattle.nl_cli.proofs.laws.answers_are_alike.Goals as goal

pub returns : goal.returns
returns c = answers_are_alike
