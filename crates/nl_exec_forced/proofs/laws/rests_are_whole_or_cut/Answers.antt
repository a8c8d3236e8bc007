use Rattle.nl_exec_forced.proofs.Rests.{rests_are_whole_or_cut}
use Rattle.nl_exec_forced.proofs.laws.rests_are_whole_or_cut.Goals as goal

pub returns : goal.returns
returns g c = rests_are_whole_or_cut c.args.machine.now
