-- Inputs that fit every world.
use Rattle.std.specs.Prelude.{List, IsTrue}
use Rattle.nl_value.specs.Plain.{Plain}
use Rattle.nl_agents.specs.World.{Rest}
use Rattle.nl_agentset_query.specs.Inputs.{inputs_fit}

-- the items fit whichever world
abbrev pub FitAlways : List Plain → Type 0
FitAlways items = (r : Rest) → IsTrue (inputs_fit r items)
