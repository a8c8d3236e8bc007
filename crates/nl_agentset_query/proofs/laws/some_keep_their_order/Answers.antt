use Rattle.nl_agentset_query.proofs.Chosen.{some_at_places, some_many, all_kept}
use Rattle.nl_agentset_query.proofs.laws.some_keep_their_order.Goals as goal

pub returns : goal.returns
returns g c = record { order = some_at_places; many = some_many; all = all_kept }
