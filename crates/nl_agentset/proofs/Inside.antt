-- The members of a set of turtles live.
use Rattle.std.specs.Prelude.{◌≡◌, All}
use Rattle.nl_value.specs.Sets.{set_kind}
use Rattle.nl_value.specs.declared.sets.AgentKind.TheVariants as the_kind
use Rattle.nl_value.specs.declared.sets.AgentSet.{AgentSet}
use Rattle.nl_value.specs.declared.sets.AgentSet.TheVariants as the_set
use Rattle.nl_agents.specs.World.{World}
use Rattle.nl_agents.specs.Changes.{TurtleLives}
use Rattle.nl_agents.specs.Members.{members_of, is_of_breed, is_listed}
use Rattle.nl_agents.specs.Standing.{IsWorld}
use Rattle.nl_agents.proofs.LivingMembers.{each_lives}
use Rattle.nl_agentset.proofs.Found.{turtles_live}
use Rattle.nl_agents.specs.declared.agents.Turtle.{Turtle}

pub turtle_members : (w : World) (set : AgentSet) → IsWorld w → set_kind set ≡ the_kind.Turtle → All (λ turtle. TurtleLives turtle w) (members_of w.rest set)
turtle_members w the_set.Turtles world is = λ k z inside. each_lives (λ (t : Turtle). t.serial) w.rest.turtles k z inside
turtle_members w (the_set.Breed breed) world is = turtles_live w (is_of_breed breed) world
turtle_members w (the_set.SomeTurtles numbers) world is = turtles_live w (λ t. is_listed numbers t.serial) world
turtle_members w the_set.Patches world is = cc
turtle_members w (the_set.SomePatches numbers) world is = cc
turtle_members w the_set.Links world is = cc
turtle_members w (the_set.LinkBreed breed) world is = cc
turtle_members w (the_set.SomeLinks numbers) world is = cc
