-- The nouns of agents.
use Rattle.std.specs.Prelude.{List, Option}
use Rattle.nl_value.specs.Plain.{Plain}
pub use Rattle.nl_agents_layout.specs.BuiltIn.{heading_slot}
pub use Rattle.nl_agents_layout.specs.Nouns.{BreedNumber}

-- what an agent keeps, one entry a slot of the agents of its kind: none where the agent's breed doesn't own the variable
abbrev pub Vars : Type 0
Vars = List (Option Plain)
