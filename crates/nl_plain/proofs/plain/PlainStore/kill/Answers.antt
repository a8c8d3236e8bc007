use Rattle.std.proofs.Common.{ap₂, subst, sym}
use Rattle.nl_agents.specs.Standing.{IsWorld}
use Rattle.nl_agents.proofs.Worlds.{killed_is_world}
use Rattle.nl_plain.specs.Held.{world_in}
use Rattle.nl_plain.proofs.Holds.{with_agents}
use Rattle.nl_plain.proofs.plain.PlainStore.kill.Goals as goal

pub invariant_of-self : goal.invariant_of-self
invariant_of-self c =
    let w = world_in c.args.self.now in
    record { stands = subst IsWorld (sym (ap₂ (with_agents w) c.remove_turtle.ensures c.remove_of.ensures)) (killed_is_world c.args.turtle w c.args.self.now.stands) }
