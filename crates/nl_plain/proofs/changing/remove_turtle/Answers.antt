use Rattle.std.proofs.Common.{◌∙◌}
use Rattle.nl_agents.specs.declared.agents.Turtle.{Turtle}
use Rattle.nl_plain.proofs.Found.{removed_found}
use Rattle.nl_plain.proofs.changing.remove_turtle.Goals as goal

pub returns : goal.returns
returns c = c.remove.ensures.items ∙ removed_found (λ (a : Turtle). a.serial) c.args.turtles.now.items c.deref.result.now c.args.serial c.turtle_place.result c.unwrap-at.result c.requires.order c.deref.ensures.value c.turtle_place.ensures c.unwrap-at.ensures
