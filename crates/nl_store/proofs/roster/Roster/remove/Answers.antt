use Rattle.std.specs.Prelude.{not, filter}
use Rattle.nl_agents.specs.Changes.{is_turtle}
use Rattle.nl_agents.specs.declared.agents.Turtle.{Turtle}
use Rattle.nl_store.proofs.Rosters.{only-turtles-left, turtle-counted, turtle-left}
use Rattle.nl_store.proofs.roster.Roster.remove.Goals as goal

pub turtle_less-requires : goal.turtle_less-requires
turtle_less-requires c = turtle-counted c.self.inside.files c.self.inside.census c.self.inside.shape c.self.inside.breeds c.self.invariant c.remove_turtle.new.self c.args.turtle c.breed_of-breed.result c.breed_of-breed.ensures c.remove_turtle.ensures.counts

pub invariant_of-self : goal.invariant_of-self
invariant_of-self c = turtle-left c.self.inside.files c.self.inside.census c.self.inside.shape c.self.inside.breeds c.self.invariant c.remove_turtle.new.self c.args.turtle c.breed_of-breed.result c.breed_of-breed.ensures c.remove_turtle.ensures.counts c.turtle_less.new.self (only-turtles-left c.self.inside.files c.remove_turtle.new.self (filter (λ (t : Turtle). not (is_turtle c.args.turtle t)) c.self.inside.files.turtles) c.remove_turtle.ensures.left) c.turtle_less.ensures
