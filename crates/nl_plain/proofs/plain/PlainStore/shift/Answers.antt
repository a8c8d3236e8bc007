use Rattle.std.proofs.Common.{ap, subst, sym}
use Rattle.nl_agents.specs.Standing.{IsWorld}
use Rattle.nl_agents.proofs.Worlds.{moved_is_world}
use Rattle.nl_plain.specs.Held.{world_in}
use Rattle.nl_plain.proofs.Holds.{with_turtles}
use Rattle.nl_plain.proofs.plain.PlainStore.shift.Goals as goal

pub invariant_of-self : goal.invariant_of-self
invariant_of-self c =
    let w = world_in c.args.self.now in
    record { stands = subst IsWorld (sym (ap (with_turtles w) c.move_turtle.ensures)) (moved_is_world c.args.turtle c.args.to w c.args.self.now.stands c.requires.at) }
