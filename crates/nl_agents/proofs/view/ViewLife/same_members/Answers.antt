use Rattle.nl_agents.proofs.LivingMembers.{members_ascend}
use Rattle.nl_agents.proofs.view.ViewLife.same_members.Goals as goal

pub returns-then-ne-clause-first_ascends : goal.returns-then-ne-clause-first_ascends
returns-then-ne-clause-first_ascends g c = members_ascend (g.S.Store.world c.args.self.now.store.now) c.args.a.now c.shape-stands.ensures.stands

pub returns-then-ne-clause-second_ascends : goal.returns-then-ne-clause-second_ascends
returns-then-ne-clause-second_ascends g c = members_ascend (g.S.Store.world c.args.self.now.store.now) c.args.b.now c.shape-stands.ensures.stands
