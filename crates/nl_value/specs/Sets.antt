-- The kind of a set's agents.
use Rattle.nl_value.specs.declared.sets.AgentKind.{AgentKind}
use Rattle.nl_value.specs.declared.sets.AgentKind.TheVariants.{Turtle, Patch, Link}
use Rattle.nl_value.specs.declared.sets.AgentSet.{AgentSet}
use Rattle.nl_value.specs.declared.sets.AgentSet.TheVariants.{Turtles, Breed, Patches, Links, LinkBreed, SomeTurtles, SomePatches, SomeLinks}

abbrev pub set_kind : AgentSet → AgentKind
set_kind Turtles = Turtle
set_kind (Breed breed) = Turtle
set_kind Patches = Patch
set_kind Links = Link
set_kind (LinkBreed breed) = Link
set_kind (SomeTurtles numbers) = Turtle
set_kind (SomePatches numbers) = Patch
set_kind (SomeLinks numbers) = Link
