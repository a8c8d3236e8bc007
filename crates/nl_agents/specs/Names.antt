-- The texts of agents and of sets of agents, and all that values ask of a world.
-- The forms are those of the NetLogo Programming Guide; the order of links, and that a set which isn't a breed's own says `turtles`,
-- `patches` or `links`, are this project's own choice.
use Rattle.std.specs.Prelude.{ℕ, ◌-◌, ℤ, pos, ◌*ℤ◌, Bool, List, [], ◌∷◌, ◌++◌, Option, Some, None, length, nat_lt, codes}
use Rattle.nl_fixed.specs.Nouns.{Bytes, Name}
use Rattle.nl_fixed.specs.Numbers.{one}
use Rattle.nl_fixed.specs.Spelling.{number_text}
use Rattle.nl_value.specs.declared.sets.AgentSet.{AgentSet}
use Rattle.nl_value.specs.declared.sets.AgentSet.TheVariants.{Turtles, Breed, Patches, Links, LinkBreed, SomeTurtles, SomePatches, SomeLinks}
use Rattle.nl_value.specs.Plain.{Plain, PlainNumber, PlainTruth, PlainWords, PlainItems, PlainTurtle, PlainPatch, PlainLink, PlainNobody, PlainSet}
use Rattle.nl_value.specs.Living.{Living, LinkPlace}
use Rattle.nl_value.specs.Fit.{set_fits_by}
use Rattle.nl_grid.specs.Geometry.{patches_of, pxcor_of, pycor_of}
use Rattle.nl_agents_layout.specs.Layouts.{breed_of, is_turtle_breed, is_link_breed}
use Rattle.nl_agents.specs.World.{Rest}
use Rattle.nl_agents.specs.Changes.{turtle_of, link_of, turtle_lives, link_lives}
use Rattle.nl_agents.specs.Members.{members_of}
use Rattle.nl_agents_layout.specs.declared.layout.BreedLayout.{BreedLayout}
use Rattle.nl_agents_layout.specs.declared.layout.Layout.{Layout}
use Rattle.nl_agents.specs.declared.agents.Turtle.{Turtle}
use Rattle.nl_agents.specs.declared.agents.Link.{Link}

-- the text of a whole number
abbrev pub whole_text : ℤ → Bytes
whole_text n = number_text (n *ℤ pos one)

-- what a turtle is called by: its serial less that of the one that is called 0
abbrev pub who_of : Rest → ℕ → ℕ
who_of r serial = serial - r.base

abbrev pub singular_or : Name → Option BreedLayout → Name
singular_or word None = word
singular_or word (Some b) = b.singular

abbrev pub plural_or : Name → Option BreedLayout → Name
plural_or word None = word
plural_or word (Some b) = b.plural

-- a word and numbers in parentheses
abbrev pub numbers_text : List ℤ → Bytes
numbers_text [] = []
numbers_text (n ∷ ns) = codes " " ++ whole_text n ++ numbers_text ns

abbrev pub agent_text : Name → List ℤ → Bytes
agent_text word numbers = codes "(" ++ word ++ numbers_text numbers ++ codes ")"

abbrev pub turtle_text : Rest → Option Turtle → Bytes
turtle_text r None = codes "nobody"
turtle_text r (Some t) =
    agent_text (singular_or (codes "turtle") (breed_of r.layout t.breed)) (pos (who_of r t.serial) ∷ [])

abbrev pub link_text : Rest → Option Link → Bytes
link_text r None = codes "nobody"
link_text r (Some l) =
    agent_text (singular_or (codes "link") (breed_of r.layout l.breed))
    (pos (who_of r l.end1) ∷ pos (who_of r l.end2) ∷ [])

abbrev pub patch_text : Rest → ℕ → Bytes
patch_text r patch = agent_text (codes "patch") (pxcor_of r.shape patch ∷ pycor_of r.shape patch ∷ [])

-- how the members of a set are called
abbrev pub members_word : Layout → AgentSet → Name
members_word layout Turtles = codes "turtles"
members_word layout (Breed breed) = plural_or (codes "turtles") (breed_of layout breed)
members_word layout Patches = codes "patches"
members_word layout Links = codes "links"
members_word layout (LinkBreed breed) = plural_or (codes "links") (breed_of layout breed)
members_word layout (SomeTurtles numbers) = codes "turtles"
members_word layout (SomePatches numbers) = codes "patches"
members_word layout (SomeLinks numbers) = codes "links"

abbrev pub set_text : Rest → AgentSet → Bytes
set_text r set =
    codes "(agentset, " ++ whole_text (pos (length (members_of r set))) ++ codes " " ++ members_word r.layout set ++ codes ")"

-- the text of an agent or a set; a dead agent's is `nobody`
abbrev pub name_of : Rest → Plain → Bytes
name_of r (PlainTurtle serial) = turtle_text r (turtle_of serial r)
name_of r (PlainLink serial) = link_text r (link_of serial r)
name_of r (PlainPatch patch) = patch_text r patch
name_of r (PlainSet set) = set_text r set
name_of r (PlainNumber count) = []
name_of r (PlainTruth truth) = []
name_of r (PlainWords bytes) = []
name_of r (PlainItems items) = []
name_of r PlainNobody = []

-- ---- what fits

-- the patch is one of the world
abbrev pub patch_fits : Rest → ℕ → Bool
patch_fits r patch = nat_lt patch (patches_of r.shape)

-- each patch of the set is one of the world, and its breed one of the layout
abbrev pub set_fits : Rest → AgentSet → Bool
set_fits r = set_fits_by (patch_fits r) (is_turtle_breed r.layout) (is_link_breed r.layout)

-- ---- what values ask

-- the ends and the breed of a link
abbrev pub place_in : Option Link → LinkPlace
place_in None = record { end1 = 0; end2 = 0; breed = 0 }
place_in (Some l) = record { end1 = l.end1; end2 = l.end2; breed = l.breed }

abbrev pub link_place : Rest → ℕ → LinkPlace
link_place r serial = place_in (link_of serial r)

abbrev pub living_of : Rest → Living
living_of r = record {
  turtle_lives = turtle_lives r;
  link_lives = link_lives r;
  members = members_of r;
  link_place = link_place r;
  name = name_of r;
  patch_fits = patch_fits r;
  set_fits = set_fits r;
}
