use Rattle.nl_agents.specs.World.{first_world}
use Rattle.nl_agents.proofs.Worlds.{first_is_world}
use Rattle.nl_agents.proofs.Calling.{call_keeps, calls_keep}
use Rattle.nl_agents.proofs.laws.calls_make_worlds.Goals as goal

pub returns : goal.returns
returns c = record {
  first = first_is_world;
  keep = call_keeps;
  make = λ layout shape calls h a. calls_keep calls (first_world layout shape) (first_is_world layout shape h) a;
}
