-- The breed of a link that was found; the texts of agents as the code makes them, of numbers that are counts of millionths.
use Rattle.std.specs.Prelude.{ℤ, Bool, false, Option, None, Some, List, [], ◌∷◌, ◌++◌, codes}
use Rattle.nl_fixed.specs.Nouns.{Bytes}
use Rattle.nl_fixed.specs.Spelling.{number_text}
use Rattle.nl_agents_layout.specs.Nouns.{BreedNumber}
use Rattle.nl_agents.specs.Members.{is_link_of_breed}
use Rattle.nl_agents.specs.declared.agents.Link.{Link}

-- the living link that was found is of the breed
abbrev pub link_is_of : BreedNumber → Option Link → Bool
link_is_of breed None = false
link_is_of breed (Some l) = is_link_of_breed breed l

-- numbers, each with a space before it
abbrev pub counts_text : List ℤ → Bytes
counts_text [] = []
counts_text (n ∷ ns) = codes " " ++ number_text n ++ counts_text ns
