use Rattle.nl_exec_meaning.proofs.Thrift.{thrifty}
use Rattle.nl_exec_meaning.proofs.laws.no_units_come_back.Goals as goal

pub returns : goal.returns
returns c = thrifty
