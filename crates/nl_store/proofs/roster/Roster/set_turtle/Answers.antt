use Rattle.nl_value.specs.Views.{plain}
use Rattle.nl_agents.specs.Nouns.{Vars}
use Rattle.nl_agents.specs.Changes.{value_set}
use Rattle.nl_store.proofs.Rosters.{turtle-filled}
use Rattle.nl_store.proofs.roster.Roster.set_turtle.Goals as goal

pub invariant_of-self : goal.invariant_of-self
invariant_of-self c =
    turtle-filled c.self.inside.files c.self.inside.census c.self.inside.shape c.self.inside.breeds c.self.invariant c.set_turtle.new.self
    (λ (vars : Vars). value_set c.args.slots.now vars c.args.slot (plain c.args.value)) c.args.turtle c.set_turtle.ensures.set
