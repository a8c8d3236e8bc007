use Rattle.nl_store.proofs.Rosters.{turtle-moved}
use Rattle.nl_store.proofs.roster.Roster.move_turtle.Goals as goal

pub invariant_of-self : goal.invariant_of-self
invariant_of-self c = turtle-moved c.self.inside.files c.self.inside.census c.self.inside.shape c.self.inside.breeds c.self.invariant c.move_turtle.new.self c.args.turtle c.args.to c.move_turtle.ensures
