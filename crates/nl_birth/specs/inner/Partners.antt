-- Who is joined already with a caller, found link by link.
use Rattle.std.specs.Prelude.{◌≡◌, ℕ, ◌==◌, Bool, ◌&&◌, not, if◌then◌else◌, List, [], ◌∷◌, Option, Some, None}
use Rattle.nl_agents_layout.specs.Nouns.{BreedNumber}
use Rattle.nl_agents.specs.declared.agents.Link.{Link}
use Rattle.nl_value.specs.Nouns.{Serials}
use Rattle.nl_agents.specs.World.{World}
use Rattle.nl_agents.specs.Members.{is_listed}
use Rattle.nl_birth.specs.Links.{has_direction, is_joined}
use Rattle.nl_birth.specs.declared.way.Way.{Way}
use Rattle.nl_birth.specs.declared.way.Way.TheVariants.{With, To, From}

-- the end beside the caller, where a link between these ends leads this way
abbrev pub other_end : Way → (caller end1 end2 : ℕ) → Option ℕ
other_end With caller end1 end2 = if end1 == caller then Some end2 else if end2 == caller then Some end1 else None
other_end To caller end1 end2 = if end1 == caller then Some end2 else None
other_end From caller end1 end2 = if end2 == caller then Some end1 else None

-- a link is of the breed, and has a direction where those of this way have one
abbrev pub is_alike : Way → BreedNumber → BreedNumber → Bool → Bool
is_alike way breed of directed = (of == breed) && (if directed then has_direction way else not (has_direction way))

-- whom the link joins with the caller, where it is of the breed and leads this way
abbrev pub partner : Way → BreedNumber → (caller : ℕ) → Link → Option ℕ
partner way breed caller l = if is_alike way breed l.breed l.directed then other_end way caller l.end1 l.end2 else None

abbrev pub with_some : Option ℕ → List ℕ → List ℕ
with_some None ns = ns
with_some (Some n) ns = n ∷ ns

-- the numbers that are given
abbrev pub collected : {X : Type 0} → (X → Option ℕ) → List X → List ℕ
collected give [] = []
collected give (x ∷ xs) = with_some (give x) (collected give xs)

-- those and no others are joined with the caller already
abbrev pub ArePartners : Way → BreedNumber → (caller : ℕ) → World → Serials → Type 0
ArePartners way breed caller w others = (target : ℕ) → is_listed others target ≡ is_joined way breed caller w target
