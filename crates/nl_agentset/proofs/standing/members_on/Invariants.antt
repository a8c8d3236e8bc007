use Rattle.std.proofs.Common.{◌≡◌, take, filter}
use Rattle.nl_value.specs.Sets.{set_kind}
use Rattle.nl_agentset_query.specs.Near.{stands_where}
use Rattle.nl_agentset.specs.Places.{is_on_one}
use Rattle.nl_agentset.proofs.standing.members_on.Given as goal

abbrev pub invariant-loop-number : goal.invariant-loop-number
invariant-loop-number g l =
    let r = (g.S.Store.world l.store).rest in
    l.kept.items ≡ filter (stands_where (is_on_one r.shape l.patches) r (set_kind l.set)) (take l.number-index l.numbers)
