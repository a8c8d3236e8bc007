use Rattle.std.proofs.Common.{◌≡◌}
use Rattle.std.specs.List.{range_with_len}
use Rattle.nl_agents.proofs.view.all_patches.Given as goal

abbrev pub invariant-loop-patch : goal.invariant-loop-patch
invariant-loop-patch g l = l.numbers.items ≡ range_with_len 0 l.patch
