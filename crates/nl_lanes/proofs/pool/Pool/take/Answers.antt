use Rattle.std.proofs.Common.{◌<◌, ◌+◌, ◌-◌, None, length, take, ap, ◌∙◌, sym, arith}
use Rattle.std.proofs.lemmas.List.{get_or_read, length-take-le}
use Rattle.nl_lanes.specs.Pools.{Shown}
use Rattle.nl_lanes.specs.Runs.{LoneRun}
use Rattle.nl_lanes.proofs.Kept.{none-is, run_of-take, seen-full, seen-kept, seen-next, whole-next, within-items}
use Rattle.nl_lanes.proofs.pool.Pool.take.Goals as goal

pub returns-then-self-clause-standing : goal.returns-then-self-clause-standing
returns-then-self-clause-standing g c =
    rw (← c.self.view_is) (seen-full g.M.Run.Lane _ _ _ _ _ _ c.self.invariant.runs_within c.if-self.true)

pub returns-then-is_some-clause-standing : goal.returns-then-is_some-clause-standing
returns-then-is_some-clause-standing g c =
    let items = c.self.inside.lanes.items in
    let within : c.args.index < length items =
    within-items g.M.Run.Lane items c.args.index (rw (← c.self.view_is) at c.requires.within) in
    let x = c.index.result.now in
    rw (← c.self.view_is) (seen-kept g.M.Run.Lane items _ _ _ _ x (sym c.is_some.ensures ∙ c.if-is_some.true)
    (sym (get_or_read items c.args.index x within c.index.ensures None)))

pub invariant_of-self-2 : goal.invariant_of-self-2
invariant_of-self-2 g c =
    let items = c.self.inside.lanes.items in
    let within : c.args.index < length items =
    within-items g.M.Run.Lane items c.args.index (rw (← c.self.view_is) at c.requires.within) in
    let x = c.index.result.now in
    let free = sym (get_or_read items c.args.index x within c.index.ensures None)
    ∙ none-is x (sym c.is_some.ensures ∙ c.if-is_some.false) in
    let made = c.in_ok-run.ensures in
    let failed = ap (λ (s : Shown). s.failed) c.self.view_is ∙ c.requires.failed in
    let begun = c.self.invariant.begun_within in
    let other = c.if-self.false in
    let below : c.self.inside.begun < c.self.inside.runs = omega (arith, begun, other) in
    rw made.same (whole-next g.M.Run.Lane _ _ items _ _ _ _ c.in_ok-run.run' c.self.invariant failed within free
    below made.going made.text)

pub returns-clause-standing : goal.returns-clause-standing
returns-clause-standing g c =
    let items = c.self.inside.lanes.items in
    let within : c.args.index < length items =
    within-items g.M.Run.Lane items c.args.index (rw (← c.self.view_is) at c.requires.within) in
    let x = c.index.result.now in
    let free = sym (get_or_read items c.args.index x within c.index.ensures None)
    ∙ none-is x (sym c.is_some.ensures ∙ c.if-is_some.false) in
    let made = c.in_ok-run.ensures in
    let list = g.M.Maker.lone_runs c.self.inside.maker in
    let begun = c.self.invariant.begun_within in
    let other = c.if-self.false in
    let below : c.self.inside.begun < c.self.inside.runs = omega (arith, begun, other) in
    let all = length-take-le c.self.inside.runs list c.self.invariant.runs_within in
    let more : c.self.inside.begun < length (take c.self.inside.runs list) = omega (arith, all, below) in
    let here : c.self.inside.begun + 1 - 1 < c.self.inside.runs = omega (arith, below) in
    rw (← c.self.view_is) (seen-next g.M.Run.Lane items _ _ _ _ c.in_ok-run.run' free more
    (made.wants ∙ sym (ap (λ (r : LoneRun). r.units) (run_of-take list c.self.inside.runs (c.self.inside.begun + 1) here))))
