use Rattle.std.specs.Prelude.{◌==◌}
use Rattle.nl_grid.specs.Geometry.{patch_at}
use Rattle.nl_agents.specs.declared.agents.Turtle.{Turtle}
use Rattle.nl_plain.proofs.Filled.{above_kept}
use Rattle.nl_plain.proofs.filling.fill_on.Goals as goal

pub push-requires : goal.push-requires
push-requires c = above_kept (λ (a : Turtle). a.serial) (λ (t : Turtle). patch_at c.args.shape t.at == c.args.patch) c.args.turtles.now c.loop-turtle.turtle-index c.turtle-item.result c.loop-turtle.into c.turtle-item.is c.loop-turtle-test.true c.requires.order c.loop-turtle.invariant
