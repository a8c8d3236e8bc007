use Rattle.nl_exec_forced.proofs.Rests.{answers_are_forced}
use Rattle.nl_exec_forced.proofs.laws.answers_are_forced.Goals as goal

pub returns : goal.returns
returns g c = answers_are_forced c.args.machine.now
