use Rattle.std.proofs.Common.{◌≡◌, length}
use Rattle.trial_keys.proofs.lanes.by_hand.Given as goal

-- there are two lanes
abbrev pub invariant-turns : goal.invariant-turns
invariant-turns l = length l.pool.standing.lanes ≡ 2
