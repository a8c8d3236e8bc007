-- An agent that hasn't died lives.
use Rattle.std.proofs.Common.{◌≡◌, true, false, IsTrue, Option, Some, None, IsSome, is_some, if◌then◌else◌, refl}
use Rattle.std.proofs.lemmas.Bool.{ltb-true}
use Rattle.nl_grid.specs.Geometry.{patches_of}
use Rattle.nl_agents.specs.World.{World}
use Rattle.nl_agents.specs.Changes.{turtle_of, link_of, OwnerLives}
use Rattle.nl_agents.specs.declared.agents.Owner.{Owner}
use Rattle.nl_agents.specs.declared.agents.Owner.TheVariants as owner
use Rattle.nl_exec_acts.specs.Acts.{is_gone}
use Rattle.nl_exec_meaning.specs.Ground.{ground_of, patch_in, agent_fits}

there : {A : Type 0} (o : Option A) → (if is_some o then false else true) ≡ false → IsSome o
there (Some x) h = refl
there None h = absurd (cc)

pub owner_lives : (w : World) (agent : Owner) → is_gone w.rest agent ≡ false → IsTrue (agent_fits (ground_of w.rest) agent) → OwnerLives agent w
unfolding patch_in
owner_lives w owner.Observer here fits = tt
owner_lives w (owner.Turtle turtle) here fits = there (turtle_of turtle w.rest) here
owner_lives w (owner.Patch patch) here fits = ltb-true patch (patches_of w.rest.shape) fits
owner_lives w (owner.Link link) here fits = there (link_of link w.rest) here
