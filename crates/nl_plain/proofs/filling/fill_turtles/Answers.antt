use Rattle.nl_agents.specs.declared.agents.Turtle.{Turtle}
use Rattle.nl_plain.proofs.Filled.{above_taken}
use Rattle.nl_plain.proofs.filling.fill_turtles.Goals as goal

pub push-requires : goal.push-requires
push-requires c = above_taken (λ (a : Turtle). a.serial) c.args.turtles.now c.loop-turtle.turtle-index c.turtle-item.result c.loop-turtle.into c.turtle-item.is c.loop-turtle-test.true c.requires c.loop-turtle.invariant
