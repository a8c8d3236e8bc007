use Rattle.std.proofs.Common.{ap, subst, sym}
use Rattle.nl_agents.specs.Standing.{IsWorld}
use Rattle.nl_agents.proofs.Worlds.{cut_is_world}
use Rattle.nl_plain.specs.Held.{world_in}
use Rattle.nl_plain.proofs.Holds.{with_links}
use Rattle.nl_plain.proofs.plain.PlainStore.cut.Goals as goal

pub invariant_of-self : goal.invariant_of-self
invariant_of-self c =
    let w = world_in c.args.self.now in
    record { stands = subst IsWorld (sym (ap (with_links w) c.remove.ensures)) (cut_is_world c.args.link w c.args.self.now.stands) }
