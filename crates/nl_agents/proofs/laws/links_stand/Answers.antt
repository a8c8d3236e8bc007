use Rattle.nl_agents.proofs.Linking.{ends_live, ties_are_single}
use Rattle.nl_agents.proofs.laws.links_stand.Goals as goal

pub returns : goal.returns
returns c = record { live = ends_live; single = ties_are_single }
