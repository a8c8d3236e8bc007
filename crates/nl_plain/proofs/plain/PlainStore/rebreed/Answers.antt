use Rattle.std.proofs.Common.{ap, subst, sym}
use Rattle.nl_agents.specs.Standing.{IsWorld}
use Rattle.nl_agents.proofs.Worlds.{rebred_is_world}
use Rattle.nl_plain.specs.Held.{world_in}
use Rattle.nl_plain.proofs.Holds.{with_turtles}
use Rattle.nl_plain.proofs.plain.PlainStore.rebreed.Goals as goal

pub invariant_of-self : goal.invariant_of-self
invariant_of-self c =
    let w = world_in c.args.self.now in
    record { stands = subst IsWorld (sym (ap (with_turtles w) c.rebreed_turtle.ensures)) (rebred_is_world c.args.turtle c.args.breed w c.args.self.now.stands c.requires.breed) }
