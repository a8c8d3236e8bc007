use Rattle.std.proofs.Common.{◌≡◌, take, filter}
use Rattle.nl_value.specs.declared.sets.AgentKind.TheVariants as the_kind
use Rattle.nl_agentset_query.specs.Near.{stands_where}
use Rattle.nl_agentset_query.specs.inner.Regions.{holds}
use Rattle.nl_agentset_query.proofs.near.Region.patches_of.Given as goal

abbrev pub invariant-loop-number : goal.invariant-loop-number
invariant-loop-number g l =
    let r = (g.S.Store.world l.store).rest in
    l.kept.items ≡ filter (stands_where (holds r.shape l.self) r the_kind.Patch) (take l.number-index l.numbers)
