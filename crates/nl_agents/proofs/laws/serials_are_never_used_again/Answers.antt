use Rattle.nl_agents.proofs.Serials.{serials_ascend, turtles_stay_dead, links_stay_dead}
use Rattle.nl_agents.proofs.laws.serials_are_never_used_again.Goals as goal

pub returns : goal.returns
returns c = record { ascend = serials_ascend; turtles = turtles_stay_dead; links = links_stay_dead }
