use Rattle.std.proofs.Common.{◌≡◌, take}
use Rattle.nl_agentset_query.proofs.orders.of_patches.Given as goal

abbrev pub invariant-loop-patch : goal.invariant-loop-patch
invariant-loop-patch l = l.numbers.items ≡ take l.patch-index l.patches
