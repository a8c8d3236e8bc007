use Rattle.nl_agents.specs.declared.agents.Turtle.{Turtle}
use Rattle.nl_plain.proofs.Found.{changed_found}
use Rattle.nl_plain.proofs.changing.move_turtle.Goals as goal

pub returns : goal.returns
returns c = changed_found (λ (t : Turtle). t.serial) (λ (t : Turtle). record t { at = c.args.to }) c.args.turtles.now.items c.deref.result.now c.args.serial c.turtle_place.result c.unwrap-at.result c.index_mut.result.now c.requires.order c.deref.ensures.value c.turtle_place.ensures c.unwrap-at.ensures c.index_mut.ensures.value
