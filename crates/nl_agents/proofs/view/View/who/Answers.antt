use Rattle.std.proofs.Common.{arith}
use Rattle.nl_agents.proofs.LivingMembers.{turtle_given}
use Rattle.nl_agents.proofs.view.View.who.Goals as goal

pub overflow_sub-turtle : goal.overflow_sub-turtle
overflow_sub-turtle g c =
    let w = g.S.Store.world c.args.self.now.store.now in
    let given = turtle_given w c.args.turtle c.shape-stands.ensures.stands c.requires in
    omega (arith, c.base.ensures, given.0)

pub whole-requires : goal.whole-requires
whole-requires g c =
    let w = g.S.Store.world c.args.self.now.store.now in
    let given = turtle_given w c.args.turtle c.shape-stands.ensures.stands c.requires in
    let few = c.shape-stands.ensures.stands.few.turtles_given in
    omega (arith, given.1, few)
