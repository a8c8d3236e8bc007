use Rattle.std.proofs.Common.{◌≡◌}
use Rattle.nl_agentset.specs.Places.{patches_at}
use Rattle.nl_agentset.proofs.Offsets.{behind, left}
use Rattle.nl_agentset.proofs.standing.patches_at.Given as goal

abbrev pub invariant-loop-offset : goal.invariant-loop-offset
invariant-loop-offset g l =
    let r = (g.S.Store.world l.store).rest in
    patches_at r l.caller l.offsets ≡ behind l.patches.items (left r l.caller l.offsets l.offset-index)
