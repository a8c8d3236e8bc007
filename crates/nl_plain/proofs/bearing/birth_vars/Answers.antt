use Rattle.std.specs.Prelude.{◌≡◌, length}
use Rattle.nl_agents.specs.Changes.{is_turtle}
use Rattle.nl_agents.specs.declared.agents.Turtle.{Turtle}
use Rattle.nl_agents.proofs.Finding.{found_all}
use Rattle.nl_plain.proofs.bearing.birth_vars.Goals as goal

pub hatched-requires : goal.hatched-requires
hatched-requires c = found_all (is_turtle c.in-Some.serial) (λ (t : Turtle). length t.vars ≡ length c.args.layout.now.some_turtle) c.args.turtles.now c.turtle_in.result.now c.requires.many c.turtle_in.ensures
