use Rattle.std.proofs.Common.{◌≡◌}
use Rattle.nl_lanes.specs.Rounds.{left}
use Rattle.nl_lanes.proofs.Driving.{Driven}
use Rattle.nl_lanes.proofs.rounds.drive.Given as goal

-- the texts so far were put, and the rounds that are left give the others
abbrev pub invariant-rounds : goal.invariant-rounds
invariant-rounds g l = record {
  list : l.pool.list ≡ l.fn.pool.list;
  faults : g.O.Sink.faults l.out ≡ g.O.Sink.faults l.fn.out;
  driven : Driven l.fn.pool.list l.units l.fn.pool.standing l.pool.standing (g.O.Sink.written l.fn.out) (g.O.Sink.written l.out);
}

abbrev pub decreases-rounds : goal.decreases-rounds
decreases-rounds g l = left l.pool.list l.pool.standing
