-- What a test of a store finds of a link.
use Rattle.std.specs.Prelude.{ℕ, Bool, false, Option, None, Some}
use Rattle.nl_agents_layout.specs.Nouns.{BreedNumber}
use Rattle.nl_agents.specs.Changes.{joins}
use Rattle.nl_agents.specs.declared.agents.Link.{Link}

-- the living link that was found joins the two the same way
abbrev pub joined : BreedNumber → Bool → ℕ → ℕ → Option Link → Bool
joined breed directed end1 end2 None = false
joined breed directed end1 end2 (Some l) = joins breed directed end1 end2 l
