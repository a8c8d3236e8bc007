-- Variables of agents: what is said of them looks at no global variable.
use Rattle.std.proofs.Common.{◌≡◌, true, refl}
use Rattle.nl_value.specs.Plain.{Plain}
use Rattle.nl_agents_layout.specs.Nouns.{Slot}
use Rattle.nl_agents.specs.World.{World}
use Rattle.nl_agents.specs.Changes.{value_of, revalued}
use Rattle.nl_agents.specs.declared.agents.Owner.{Owner}
use Rattle.nl_agents.specs.declared.agents.Owner.TheVariants as owner
use Rattle.nl_exec_acts.specs.Stage.{bare, changed_rest}
use Rattle.nl_exec_at_once.specs.AtOnce.{is_agent}

pub value_of_agent : (o : Owner) (slot : Slot) (w : World) → is_agent o ≡ true → value_of o slot (bare w.rest) ≡ value_of o slot w
value_of_agent owner.Observer slot w is = absurd (cc)
value_of_agent (owner.Turtle turtle) slot w is = refl
value_of_agent (owner.Patch patch) slot w is = refl
value_of_agent (owner.Link link) slot w is = refl

pub revalued_agent : (o : Owner) (slot : Slot) (value : Plain) (w : World) → is_agent o ≡ true →
    revalued o slot value w ≡ record { globals = w.globals; rest = changed_rest (revalued o slot value) w.rest }
revalued_agent owner.Observer slot value w is = absurd (cc)
revalued_agent (owner.Turtle turtle) slot value w is = refl
revalued_agent (owner.Patch patch) slot value w is = refl
revalued_agent (owner.Link link) slot value w is = refl
