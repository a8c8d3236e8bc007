use Rattle.std.proofs.Common.{◌≡◌, ◌≤◌, ◌+◌, length, ap, ◌∙◌, subst, arith}
use Rattle.nl_outer.specs.Bytes.{Appended}
use Rattle.nl_lanes.specs.Rounds.{turns_of_a_round}
use Rattle.nl_lanes.specs.Turns.{Standing}
use Rattle.nl_lanes.specs.Pools.{bytes_of}
use Rattle.nl_lanes.proofs.Turning.{first_turns, round-is, turns-length}
use Rattle.nl_lanes.proofs.Rounding.{OnErr-all, failed_puts_none, never_failed, part-of-round, standing-more, written-more}
use Rattle.nl_lanes.proofs.rounds.round.Goals as goal

pub turn_of-requires-clause-to : goal.turn_of-requires-clause-to
turn_of-requires-clause-to g c =
    let at = ap (λ (s : Standing). length s.lanes) c.loop-index.invariant.standing ∙ turns-length c.args.pool.now.list
    (turns_of_a_round c.loop-index.index c.args.units) c.args.pool.now.standing in
    let count = c.lanes-index-end.ensures.count in
    omega (arith, at, count)

pub returns-in_err-turn_of-clause-part : goal.returns-in_err-turn_of-clause-part
returns-in_err-turn_of-clause-part g c =
    let i = c.loop-index.invariant in
    let count = c.lanes-index-end.ensures.count in
    let within : c.loop-index.index + 1 ≤ length c.args.pool.now.standing.lanes = omega (arith, count) in
    OnErr-all c.from_residual.result _ (part-of-round c.args.pool.now.list c.loop-index.pool.list c.loop-index.index c.args.units
    c.args.pool.now.standing c.loop-index.pool.standing _ _ _ i.list i.standing within i.written c.in_err-turn_of.ensures.part)

pub loop-index-preserved : goal.loop-index-preserved
loop-index-preserved g c =
    let i = c.loop-index.invariant in
    let t = c.in_ok-turn_of.ensures in
    record {
      standing = standing-more c.args.pool.now.list c.loop-index.pool.list c.loop-index.index c.args.units
          c.args.pool.now.standing c.loop-index.pool.standing _ i.list i.standing t.standing;
      list = c.turn_of.ensures.list ∙ i.list;
      written = written-more c.args.pool.now.list c.loop-index.pool.list c.loop-index.index c.args.units
          c.args.pool.now.standing c.loop-index.pool.standing _ _ _ i.list i.standing i.written t.whole;
      faults = t.ok ∙ i.faults;
      going = λ h. never_failed c.loop-index.index c.args.pool.now c.loop-index.pool i.going i.first t.going;
      goes_on = λ h. t.goes_on;
      first_out = λ h. absurd (omega arith);
      first = λ h. absurd (omega arith);
    }

pub returns-clause-standing : goal.returns-clause-standing
returns-clause-standing g c =
    let count = c.lanes-index-end.ensures.count in
    let e : c.loop-index.index ≡ length c.args.pool.now.standing.lanes = omega (arith, count) in
    rw round-is (c.loop-index.invariant.standing
    ∙ ap (λ n. (first_turns c.args.pool.now.list n c.args.units c.args.pool.now.standing).standing) e)

pub returns-clause-whole : goal.returns-clause-whole
returns-clause-whole g c =
    let count = c.lanes-index-end.ensures.count in
    let e : c.loop-index.index ≡ length c.args.pool.now.standing.lanes = omega (arith, count) in
    let list = c.args.pool.now.list in
    rw round-is (subst
    (λ n. Appended (g.O.Sink.written c.args.out.now) (g.O.Sink.written c.loop-index.out)
    (bytes_of list (first_turns list n c.args.units c.args.pool.now.standing).given)) e c.loop-index.invariant.written)

pub returns-in_err-turn_of-clause-none : goal.returns-in_err-turn_of-clause-none
returns-in_err-turn_of-clause-none g c =
    let i = c.loop-index.invariant in
    failed_puts_none c.loop-index.index c.args.pool.now c.loop-index.pool _ _ _ i.going i.first
    (λ h. ap g.O.Sink.written (i.first_out h)) c.turn_of.ensures.none
