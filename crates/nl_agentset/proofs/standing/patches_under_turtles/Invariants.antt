use Rattle.std.proofs.Common.{◌≡◌, ◌<◌, All, take}
use Rattle.nl_value.specs.declared.sets.AgentKind.TheVariants as the_kind
use Rattle.nl_grid.specs.Geometry.{patches_of}
use Rattle.nl_agentset.specs.Places.{patches_under}
use Rattle.nl_agentset.proofs.standing.patches_under_turtles.Given as goal

abbrev pub invariant-loop-number : goal.invariant-loop-number
invariant-loop-number g l =
    let r = (g.S.Store.world l.store).rest in
    (l.patches.items ≡ patches_under r the_kind.Turtle (take l.number-index l.numbers)) × All (λ patch. patch < patches_of r.shape) l.patches.items
