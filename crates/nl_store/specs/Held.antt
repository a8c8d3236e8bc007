-- The world of a store by records.
use Rattle.nl_agents.specs.World.{World}
use Rattle.nl_store.specs.Worlds.{world_with}
use Rattle.nl_store.specs.declared.indexed.Indexed.{Indexed}

abbrev pub world_in : Indexed → World
world_in s = world_with s.land s.roster s.base
