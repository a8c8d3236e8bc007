-- The making of links between a turtle and targets: which are made, which ends they have, and where none may be made.
use Rattle.std.specs.Prelude.{◌≡◌, All, ℕ, ◌-◌, ◌==◌, Bool, true, false, ◌&&◌, ◌||◌, not, if◌then◌else◌, [], ◌∷◌, length, filter, take, min, max}
use Rattle.std.specs.List.{list_any}
use Rattle.nl_value.specs.Nouns.{Serials}
use Rattle.nl_agents_layout.specs.Nouns.{BreedNumber}
use Rattle.nl_agents.specs.World.{World}
use Rattle.nl_agents.specs.Changes.{joins, tied}
use Rattle.nl_agents.specs.Members.{is_listed, is_unbreeded}
use Rattle.nl_agents.specs.declared.agents.Link.{Link}
use Rattle.nl_birth.specs.Outcomes.{BirthOutcome, Refused, outcome_of}
use Rattle.nl_birth.specs.declared.way.Way.{Way}
use Rattle.nl_birth.specs.declared.way.Way.TheVariants.{With, To, From}

-- ---- ends

abbrev pub has_direction : Way → Bool
has_direction With = false
has_direction To = true
has_direction From = true

-- The ends of the link of a caller and a target: without a direction the lower serial is the first, and one with a direction leads from
-- the first to the second.
abbrev pub first_end : Way → (caller target : ℕ) → ℕ
first_end With caller target = min caller target
first_end To caller target = caller
first_end From caller target = target

abbrev pub second_end : Way → (caller target : ℕ) → ℕ
second_end With caller target = max caller target
second_end To caller target = target
second_end From caller target = caller

-- ---- which links are made

-- a living link of the breed joins the caller and the target already, the same way
abbrev pub is_joined : Way → BreedNumber → (caller : ℕ) → World → (target : ℕ) → Bool
is_joined way breed caller w target =
    list_any (joins breed (has_direction way) (first_end way caller target) (second_end way caller target)) w.rest.links

-- none of the targets is joined with the caller already
abbrev pub AreFree : Way → BreedNumber → (caller : ℕ) → World → Serials → Type 0
AreFree way breed caller w = All (λ target. is_joined way breed caller w target ≡ false)

-- the targets to which a link is to be made
abbrev pub wanted : Way → BreedNumber → (caller : ℕ) → Serials → World → Serials
wanted way breed caller targets w = filter (λ target. not (is_joined way breed caller w target)) targets

-- a link to the target is made
abbrev pub tied_to : Way → BreedNumber → (caller target : ℕ) → World → World
tied_to way breed caller target = tied breed (has_direction way) (first_end way caller target) (second_end way caller target)

-- a link to each of the targets is made, one after another
unfoldable pub tied_to_all : Way → BreedNumber → (caller : ℕ) → Serials → World → World
tied_to_all way breed caller [] w = w
tied_to_all way breed caller (t ∷ ts) w = tied_to_all way breed caller ts (tied_to way breed caller t w)

-- what links to the first so many of the targets leave
abbrev pub first_ties : Way → BreedNumber → (caller : ℕ) → Serials → World → ℕ → World
first_ties way breed caller targets w k = tied_to_all way breed caller (take k targets) w

-- how many more links can be made: as many as may still live, and as there are serials left
abbrev pub link_room : World → ℕ
link_room w = min (400_000 - length w.rest.links) (9_000_000_000_000 - w.rest.links_given)

-- ---- which may not be made

abbrev pub is_none : Serials → Bool
is_none [] = true
is_none (t ∷ ts) = false

-- the link is of no breed, and has a direction where links without one are to be made, or none where links with one are
abbrev pub is_of_other_kind : Bool → Link → Bool
is_of_other_kind directed = is_unbreeded (not directed)

-- The caller is a target; or a link of no breed is to be made, and one of the other kind lives.
abbrev pub is_refused : Way → BreedNumber → (caller : ℕ) → Serials → World → Bool
is_refused way breed caller targets w =
    is_listed targets caller
    || ((breed == 0) && not (is_none (wanted way breed caller targets w)) && list_any (is_of_other_kind (has_direction way)) w.rest.links)

-- ---- the words

-- Links to a number of targets: all are made, or as many as there is room for.
abbrev pub links_made : (ℕ → World) → World → ℕ → BirthOutcome World
links_made after w count = outcome_of after (link_room w) w.rest.links_given count

-- what so many links leave, of those that are to be made
abbrev pub linkings : Way → BreedNumber → (caller : ℕ) → Serials → World → ℕ → World
linkings way breed caller targets w = first_ties way breed caller (wanted way breed caller targets w) w

-- `create-link-with` and its kin: a link to each target in ascending order, where none of the breed joins it already
abbrev pub linked : Way → BreedNumber → (caller : ℕ) → Serials → World → BirthOutcome World
linked way breed caller targets w =
    if is_refused way breed caller targets w
    then Refused w
    else links_made (linkings way breed caller targets w) w (length (wanted way breed caller targets w))

-- how many of them are made at the most, also where memory is refused on the way: none where none may be made
abbrev pub most_links : Way → BreedNumber → (caller : ℕ) → Serials → World → ℕ
most_links way breed caller targets w =
    if is_refused way breed caller targets w then 0 else min (length (wanted way breed caller targets w)) (link_room w)
