use Rattle.std.proofs.Common.{arith}
use Rattle.nl_agents.proofs.LivingMembers.{members_are_few}
use Rattle.nl_agentset.proofs.sets.of_agents.Goals as goal

pub whole-requires : goal.whole-requires
whole-requires g c =
    let few = members_are_few (g.S.Store.world c.args.store.now) c.args.set.now c.shape-stands.ensures.stands in
    omega (arith, few, c.in_ok-many-in-Count.ensures.count)
