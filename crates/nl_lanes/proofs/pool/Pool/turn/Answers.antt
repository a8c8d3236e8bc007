use Rattle.std.proofs.Common.{◌≡◌, ◌<◌, ◌≤◌, ◌+◌, ◌-◌, length, take, ap, ◌∙◌, sym, subst, arith}
use Rattle.nl_lanes.specs.Runs.{LoneRuns}
use Rattle.nl_lanes.specs.Turns.{taken, worked}
use Rattle.nl_lanes.specs.Pools.{IsSound, Shown, text_given}
use Rattle.nl_lanes.proofs.Cases.{taken-sound, turned-is, worked-sound}
use Rattle.nl_lanes.proofs.Kept.{seen, seen-sound, whole-done}
use Rattle.nl_lanes.proofs.pool.Pool.turn.Goals as goal

pub returns-clause-standing : goal.returns-clause-standing
returns-clause-standing g c =
    let at : c.args.lane - 1 + 1 ≡ c.args.lane = omega arith in
    let t = c.in_ok-take.ensures.standing in
    let w = c.in_ok-text.ensures.standing in
    rw (← c.self.view_is, turned-is) (ap (λ (s : Shown). s.standing) c.self-2.view_is ∙ w
    ∙ ap (λ s. (worked (c.args.lane - 1 + 1) c.args.units s).standing) t
    ∙ ap (λ l. (worked l c.args.units (taken (take c.self.inside.runs (g.M.Maker.lone_runs c.self.inside.maker)) l
    (seen g.M.Run.Lane c.self.inside.lanes.items c.self.inside.begun c.self.inside.ended))).standing) at)

pub returns-clause-text : goal.returns-clause-text
returns-clause-text g c =
    let at : c.args.lane - 1 + 1 ≡ c.args.lane = omega arith in
    let list = take c.self.inside.runs (g.M.Maker.lone_runs c.self.inside.maker) in
    let t = c.in_ok-take.ensures.standing in
    rw (← c.self.view_is, turned-is) (c.in_ok-text.ensures.text
    ∙ ap (λ (l : LoneRuns). text_given l (worked (c.args.lane - 1 + 1) c.args.units c.take.new.self.standing).gives) c.take.ensures.list
    ∙ ap (λ s. text_given list (worked (c.args.lane - 1 + 1) c.args.units s).gives) t
    ∙ ap (λ l. text_given list (worked l c.args.units (taken list l
    (seen g.M.Run.Lane c.self.inside.lanes.items c.self.inside.begun c.self.inside.ended))).gives) at)

pub invariant_of-self-3 : goal.invariant_of-self-3
invariant_of-self-3 g c =
    let lane = c.args.lane - 1 + 1 in
    let list = take c.self.inside.runs (g.M.Maker.lone_runs c.self.inside.maker) in
    let s = seen g.M.Run.Lane c.self.inside.lanes.items c.self.inside.begun c.self.inside.ended in
    let within : c.args.lane ≤ length s.lanes = rw (← c.self.view_is) at c.requires.to in
    let here : lane - 1 < length s.lanes = omega arith in
    let going = sym c.replace-failed.ensures.value ∙ c.if-failed.false in
    let first = seen-sound g.M.Run.Lane c.self.inside.runs _ _ _ _ _ c.self.invariant going in
    let sound = worked-sound list lane c.args.units (taken list lane s) (taken-sound list lane s here first) in
    let same : take c.self-2.inside.runs (g.M.Maker.lone_runs c.self-2.inside.maker) ≡ list =
    ap (λ (p : Shown). p.list) c.self-2.view_is ∙ c.in_ok-text.ensures.list ∙ c.take.ensures.list in
    let is = ap (λ (p : Shown). p.standing) c.self-2.view_is ∙ c.in_ok-text.ensures.standing
    ∙ ap (λ t. (worked lane c.args.units t).standing) c.in_ok-take.ensures.standing in
    whole-done g.M.Run.Lane c.self-2.inside.runs _ _ _ _ _ (worked lane c.args.units (taken list lane s)).standing
    c.self-2.invariant is (subst (λ l. IsSound l (worked lane c.args.units (taken list lane s)).standing) (sym same) sound)
