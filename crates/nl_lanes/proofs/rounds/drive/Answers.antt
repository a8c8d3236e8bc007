use Rattle.std.proofs.Common.{◌≡◌, false, true, refl, ap, ◌∙◌, sym, subst}
use Rattle.nl_outer.specs.Bytes.{Appended, PartAppended}
use Rattle.nl_lanes.specs.Runs.{LoneRuns}
use Rattle.nl_lanes.specs.Rounds.{all_ended, left, round}
use Rattle.nl_lanes.specs.Pools.{IsSound, bytes_of}
use Rattle.nl_lanes.proofs.Rounding.{OnErr-all}
use Rattle.nl_lanes.proofs.Driving.{driven-more, driven-part, driven-standing, driven-whole}
use Rattle.nl_lanes.proofs.Progress.{round-less}
use Rattle.nl_lanes.proofs.rounds.drive.Goals as goal

pub rounds-smaller : goal.rounds-smaller
rounds-smaller g c =
    let s = c.rounds.pool.standing in
    let list = c.rounds.pool.list in
    let t = c.in_ok-round.ensures in
    let going : all_ended list s ≡ false = sym c.is_done.ensures.done ∙ c.rounds-test.true in
    let less = round-less list c.args.units s c.requires (c.is_done.ensures.sound t.going) going in
    let e : left c.round.new.pool.list c.round.new.pool.standing ≡ left list (round list c.args.units s).standing =
    ap (λ (l : LoneRuns). left l c.round.new.pool.standing) t.list ∙ ap (left list) t.standing in
    rw e less

pub rounds-preserved : goal.rounds-preserved
rounds-preserved g c =
    let i = c.rounds.invariant in
    let s = c.rounds.pool.standing in
    let t = c.in_ok-round.ensures in
    let same = i.list in
    let going : all_ended c.args.pool.now.list s ≡ false =
    ap (λ l. all_ended l s) (sym same) ∙ sym c.is_done.ensures.done ∙ c.rounds-test.true in
    let sound = subst (λ l. IsSound l s) same (c.is_done.ensures.sound t.going) in
    record {
      list = c.round.ensures.list ∙ same;
      faults = t.ok ∙ i.faults;
      driven = driven-more c.args.pool.now.list c.args.units c.args.pool.now.standing s _ _ (g.O.Sink.written c.rounds.out) _
          c.requires sound going i.driven (t.standing ∙ ap (λ l. (round l c.args.units s).standing) same)
          (subst (λ l. Appended (g.O.Sink.written c.rounds.out) (g.O.Sink.written c.round.new.out)
          (bytes_of l (round l c.args.units s).given)) same t.whole);
    }

pub returns-in_err-round-clause-part : goal.returns-in_err-round-clause-part
returns-in_err-round-clause-part g c =
    let i = c.rounds.invariant in
    let s = c.rounds.pool.standing in
    let same = i.list in
    let going : all_ended c.args.pool.now.list s ≡ false =
    ap (λ l. all_ended l s) (sym same) ∙ sym c.is_done.ensures.done ∙ c.rounds-test.true in
    OnErr-all c.from_residual.result _ (driven-part c.args.pool.now.list c.args.units c.args.pool.now.standing c.rounds.pool
    (g.O.Sink.written c.args.out.now) (g.O.Sink.written c.rounds.out) (g.O.Sink.written c.round.new.out)
    c.rounds.pool.failed refl c.requires same
    (λ h. subst (λ l. IsSound l s) same (c.is_done.ensures.sound h)) going i.driven
    (subst (λ l. PartAppended (g.O.Sink.written c.rounds.out) (g.O.Sink.written c.round.new.out)
    (bytes_of l (round l c.args.units s).given)) same c.in_err-round.ensures.part)
    c.round.ensures.none)

pub returns-clause-whole : goal.returns-clause-whole
returns-clause-whole g c =
    let i = c.rounds.invariant in
    let s = c.rounds.pool.standing in
    let done : all_ended c.args.pool.now.list s ≡ true =
    ap (λ l. all_ended l s) (sym i.list) ∙ sym c.is_done.ensures.done ∙ c.rounds-test.false in
    driven-whole c.args.pool.now.list c.args.units c.args.pool.now.standing s _ _ done i.driven

pub returns-clause-standing : goal.returns-clause-standing
returns-clause-standing g c =
    let i = c.rounds.invariant in
    let s = c.rounds.pool.standing in
    let done : all_ended c.args.pool.now.list s ≡ true =
    ap (λ l. all_ended l s) (sym i.list) ∙ sym c.is_done.ensures.done ∙ c.rounds-test.false in
    driven-standing c.args.pool.now.list c.args.units c.args.pool.now.standing s _ _ done i.driven
