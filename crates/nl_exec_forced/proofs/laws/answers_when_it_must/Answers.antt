use Rattle.nl_exec_forced.proofs.Rests.{answers_are_forced}
use Rattle.nl_exec_forced.proofs.laws.answers_when_it_must.Goals as goal

pub returns-clause-ended : goal.returns-clause-ended
returns-clause-ended g c e is wants =
    answers_are_forced c.args.machine.now c.args.units wants.0 (c.advance.ensures.over e is wants.1)
