-- What never changes while texts run: the shape of the world and the layout of its variables. Whether a value fits the world, and a word of a
-- breed the layout, rests on these alone.
use Rattle.std.specs.Prelude.{ℕ, Bool, true, IsTrue, List, nat_lt}
use Rattle.std.specs.List.{list_all}
use Rattle.nl_value.specs.Plain.{Plain}
use Rattle.nl_value.specs.Fit.{value_fits, set_fits_by}
use Rattle.nl_value.specs.declared.sets.AgentSet.{AgentSet}
use Rattle.nl_grid.specs.Geometry.{Plane, patches_of}
use Rattle.nl_agents_layout.specs.Layouts.{is_turtle_breed, is_link_breed}
use Rattle.nl_agents_layout.specs.declared.layout.Layout.{Layout}
use Rattle.nl_agents.specs.World.{Rest}
use Rattle.nl_agents.specs.declared.agents.Owner.{Owner}
use Rattle.nl_agents.specs.declared.agents.Owner.TheVariants as owner
use Rattle.nl_exec_meaning.specs.declared.sites.Site.{Site}

pub record Ground : Type 0 where
  pub shape : Plane
  pub layout : Layout

abbrev pub ground_of : Rest → Ground
ground_of r = record { shape = r.shape; layout = r.layout }

-- the patch is one of the world
unfoldable pub patch_in : Ground → ℕ → Bool
patch_in g = λ patch. nat_lt patch (patches_of g.shape)

-- each patch of the set is one of the world, and its breed one of the layout
unfoldable pub set_in : Ground → AgentSet → Bool
set_in g = set_fits_by (λ patch. nat_lt patch (patches_of g.shape)) (is_turtle_breed g.layout) (is_link_breed g.layout)

-- each patch that the value names is one of the world, and each breed one of the layout
abbrev pub fits : Ground → Plain → Bool
fits g value = value_fits (patch_in g) (set_in g) value

abbrev pub all_fit : Ground → List Plain → Bool
all_fit g values = list_all (fits g) values

-- a patch is one of the world; another agent may have died
abbrev pub agent_fits : Ground → Owner → Bool
agent_fits g (owner.Patch patch) = patch_in g patch
agent_fits g owner.Observer = true
agent_fits g (owner.Turtle turtle) = true
agent_fits g (owner.Link link) = true

-- who runs and who asked
pub record SiteFits (g : Ground) (site : Site) : Type 0 where
  pub agent : IsTrue (agent_fits g site.agent)
  pub asker : IsTrue (agent_fits g site.asker)
