-- The world of a store of lists.
use Rattle.nl_agents.specs.World.{World}
use Rattle.nl_plain.specs.Lists.{world_of}
use Rattle.nl_plain.specs.declared.plain.Plain as store

abbrev pub world_in : store.Plain → World
world_in s = world_of s.shape s.layout s.globals s.run s.turtles.items s.patches.items s.links s.turtles_given s.links_given s.base
