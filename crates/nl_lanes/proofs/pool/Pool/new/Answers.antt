use Rattle.std.proofs.Common.{◌≡◌, ◌≤◌, refl, arith}
use Rattle.nl_lanes.proofs.Kept.{held_all-first, whole-first}
use Rattle.nl_lanes.proofs.pool.Pool.new.Goals as goal

pub invariant_of-result : goal.invariant_of-result
invariant_of-result g c =
    let some : 1 ≤ c.loop.counter = omega arith in
    whole-first g.M.Run.Lane c.args.runs _ c.loop.free.items c.loop.counter c.loop.invariant some c.requires.runs

pub returns : goal.returns
returns g c =
    let e : c.loop.counter ≡ c.args.lanes = omega arith in
    rw (held_all-first g.M.Run.Lane c.loop.free.items c.loop.counter c.loop.invariant, e) refl
