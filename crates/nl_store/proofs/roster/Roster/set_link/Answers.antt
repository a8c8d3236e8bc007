use Rattle.nl_value.specs.Views.{plain}
use Rattle.nl_agents.specs.Nouns.{Vars}
use Rattle.nl_agents.specs.Changes.{value_set}
use Rattle.nl_store.proofs.Rosters.{link-filled}
use Rattle.nl_store.proofs.roster.Roster.set_link.Goals as goal

pub invariant_of-self : goal.invariant_of-self
invariant_of-self c =
    link-filled c.self.inside.files c.self.inside.census c.self.inside.shape c.self.inside.breeds c.self.invariant c.set_link.new.self
    (λ (vars : Vars). value_set c.args.slots.now vars c.args.slot (plain c.args.value)) c.args.link c.set_link.ensures.set
