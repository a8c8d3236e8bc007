-- What the setting of global variables leaves of a machine.
use Rattle.std.specs.Prelude.{◌≡◌}
use Rattle.nl_agents.specs.World.{World}
use Rattle.nl_agents.specs.declared.store.Store.{Ghosts}
use Rattle.nl_exec.specs.Machines.{IsClosed, in_world, program_of, scene_of, spent_of, units_left, world_of}
use Rattle.nl_exec.specs.declared.slices.Machine.{Machine}

-- no text is open, and the world alone has changed
pub record HasSet {S : Type 0} {G : Ghosts S} (after before : Machine S G) (change : World → World) : Type 0 where
  pub closed : IsClosed after
  pub scene : scene_of after ≡ in_world (change (world_of before)) (scene_of before)
  pub program : program_of after ≡ program_of before
  pub spent : spent_of after ≡ spent_of before
  pub left : units_left after ≡ units_left before
