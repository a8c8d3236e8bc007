use Rattle.nl_exec_arrows.proofs.Lengths.{maps_are_as_long}
use Rattle.nl_exec_arrows.proofs.laws.maps_are_as_long.Goals as goal

pub returns : goal.returns
returns c = maps_are_as_long
