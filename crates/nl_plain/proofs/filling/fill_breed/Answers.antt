use Rattle.nl_agents.specs.Members.{is_of_breed}
use Rattle.nl_agents.specs.declared.agents.Turtle.{Turtle}
use Rattle.nl_plain.proofs.Filled.{above_kept}
use Rattle.nl_plain.proofs.filling.fill_breed.Goals as goal

pub push-requires : goal.push-requires
push-requires c = above_kept (λ (a : Turtle). a.serial) (is_of_breed c.args.breed) c.args.turtles.now c.loop-turtle.turtle-index c.turtle-item.result c.loop-turtle.into c.turtle-item.is c.loop-turtle-test.true c.requires c.loop-turtle.invariant
