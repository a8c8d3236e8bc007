use Rattle.nl_agents.proofs.Leaving.{leaves_the_rest}
use Rattle.nl_agents.proofs.laws.calls_leave_the_rest.Goals as goal

pub returns : goal.returns
returns c = leaves_the_rest
