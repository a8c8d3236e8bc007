use Rattle.std.proofs.Common.{◌≡◌, ◌<◌}
use Rattle.nl_outer.specs.Bytes.{Appended}
use Rattle.nl_lanes.specs.Pools.{HasFailed, bytes_of}
use Rattle.nl_lanes.proofs.Turning.{first_turns}
use Rattle.nl_lanes.proofs.rounds.round.Given as goal

-- the turns of the lanes so far were done, and what they give was put
abbrev pub invariant-loop-index : goal.invariant-loop-index
invariant-loop-index g l = record {
  standing : l.pool.standing ≡ (first_turns l.fn.pool.list l.index l.units l.fn.pool.standing).standing;
  list : l.pool.list ≡ l.fn.pool.list;
  written : Appended (g.O.Sink.written l.fn.out) (g.O.Sink.written l.out)
      (bytes_of l.fn.pool.list (first_turns l.fn.pool.list l.index l.units l.fn.pool.standing).given);
  faults : g.O.Sink.faults l.out ≡ g.O.Sink.faults l.fn.out;
  going : 0 < l.index → HasFailed l.fn.pool → ⊥;
  goes_on : 0 < l.index → HasFailed l.pool → ⊥;
  first_out : l.index ≡ 0 → l.out ≡ l.fn.out;
  first : l.index ≡ 0 → l.pool ≡ l.fn.pool;
}
