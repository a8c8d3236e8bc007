use Rattle.std.proofs.Common.{◌≡◌, None, replicate}
use Rattle.nl_lanes.proofs.pool.Pool.new.Given as goal

abbrev pub invariant-loop : goal.invariant-loop
invariant-loop g l = l.free.items ≡ replicate l.counter None
