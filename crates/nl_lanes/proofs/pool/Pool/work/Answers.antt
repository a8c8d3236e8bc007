use Rattle.std.proofs.Common.{◌<◌, None, Some, length, take, ap, ◌∙◌, sym, rules}
use Rattle.std.proofs.lemmas.List.{get_or_read}
use Rattle.nl_lanes.specs.Pools.{Shown, text_given}
use Rattle.nl_lanes.specs.Turns.{Turned}
use Rattle.nl_lanes.proofs.Kept.{ended-below, own-at, seen-ends, seen-goes, whole-ends, whole-free, whole-goes, within-items}
use Rattle.nl_lanes.proofs.pool.Pool.work.Goals as goal

pub invariant_of-self-in_err-open-in-Some : goal.invariant_of-self-in_err-open-in-Some
invariant_of-self-in_err-open-in-Some g c =
    let items = c.self.inside.lanes.items in
    let within : c.args.index < length items =
    within-items g.M.Run.Lane items c.args.index (rw (← c.self.view_is) at c.requires.within) in
    let is = sym (get_or_read items c.args.index c.index_mut.result.now within c.index_mut.ensures.value None)
    ∙ sym c.in-Some.ensures.value in
    let failed = ap (λ (s : Shown). s.failed) c.self.view_is ∙ c.requires.failed in
    rw c.in-Some.ensures.after (whole-free g.M.Run.Lane _ _ items _ _ _ _ c.in-Some.open c.self.invariant failed is)

pub invariant_of-self-in-Open : goal.invariant_of-self-in-Open
invariant_of-self-in-Open g c =
    let items = c.self.inside.lanes.items in
    let within : c.args.index < length items =
    within-items g.M.Run.Lane items c.args.index (rw (← c.self.view_is) at c.requires.within) in
    let is = sym (get_or_read items c.args.index c.index_mut.result.now within c.index_mut.ensures.value None)
    ∙ sym c.in-Some.ensures.value in
    let failed = ap (λ (s : Shown). s.failed) c.self.view_is ∙ c.requires.failed in
    let still = rw c.in-Open.is at c.in_ok-open-in-Some.ensures in
    rw c.in-Some.ensures.after (whole-goes g.M.Run.Lane _ _ items _ _ c.args.units _ _ c.in-Some.open c.in-Open.«open»
    c.self.invariant failed within is still)

pub overflow_add-self : goal.overflow_add-self
overflow_add-self g c =
    let items = c.self.inside.lanes.items in
    let within : c.args.index < length items =
    within-items g.M.Run.Lane items c.args.index (rw (← c.self.view_is) at c.requires.within) in
    let is = sym (get_or_read items c.args.index c.index_mut.result.now within c.index_mut.ensures.value None)
    ∙ sym c.in-Some.ensures.value in
    let below = ended-below g.M.Run.Lane _ _ items _ _ _ _ c.in-Some.open c.self.invariant is in
    let known = c.self.ranges in
    search (rules, below)

pub invariant_of-self-in-Ended : goal.invariant_of-self-in-Ended
invariant_of-self-in-Ended g c =
    let items = c.self.inside.lanes.items in
    let within : c.args.index < length items =
    within-items g.M.Run.Lane items c.args.index (rw (← c.self.view_is) at c.requires.within) in
    let is = sym (get_or_read items c.args.index c.index_mut.result.now within c.index_mut.ensures.value None)
    ∙ sym c.in-Some.ensures.value in
    let failed = ap (λ (s : Shown). s.failed) c.self.view_is ∙ c.requires.failed in
    rw c.in-Some.ensures.after (whole-ends g.M.Run.Lane _ _ items _ _ _ _ c.in-Some.open c.self.invariant failed is)

pub returns-in-Open-clause-standing : goal.returns-in-Open-clause-standing
returns-in-Open-clause-standing g c =
    let items = c.self.inside.lanes.items in
    let within : c.args.index < length items =
    within-items g.M.Run.Lane items c.args.index (rw (← c.self.view_is) at c.requires.within) in
    let is = sym (get_or_read items c.args.index c.index_mut.result.now within c.index_mut.ensures.value None)
    ∙ sym c.in-Some.ensures.value in
    let still = rw c.in-Open.is at c.in_ok-open-in-Some.ensures in
    rw (← c.self.view_is, c.in-Some.ensures.after) (sym (ap (λ (t : Turned). t.standing)
    (seen-goes g.M.Run.Lane items c.args.index _ _ c.args.units c.in-Some.open c.in-Open.«open» is still)))

pub returns-in-Ended-clause-standing : goal.returns-in-Ended-clause-standing
returns-in-Ended-clause-standing g c =
    let items = c.self.inside.lanes.items in
    let within : c.args.index < length items =
    within-items g.M.Run.Lane items c.args.index (rw (← c.self.view_is) at c.requires.within) in
    let is = sym (get_or_read items c.args.index c.index_mut.result.now within c.index_mut.ensures.value None)
    ∙ sym c.in-Some.ensures.value in
    let over = rw c.in-Ended.is at c.in_ok-open-in-Some.ensures in
    rw (← c.self.view_is, c.in-Some.ensures.after) (sym (ap (λ (t : Turned). t.standing)
    (seen-ends g.M.Run.Lane items c.args.index _ _ c.args.units c.in-Some.open is over.0)))

pub returns-in-Ended-clause-text : goal.returns-in-Ended-clause-text
returns-in-Ended-clause-text g c =
    let items = c.self.inside.lanes.items in
    let within : c.args.index < length items =
    within-items g.M.Run.Lane items c.args.index (rw (← c.self.view_is) at c.requires.within) in
    let is = sym (get_or_read items c.args.index c.index_mut.result.now within c.index_mut.ensures.value None)
    ∙ sym c.in-Some.ensures.value in
    let over = rw c.in-Ended.is at c.in_ok-open-in-Some.ensures in
    let own = own-at g.M.Run.Lane _ _ items _ _ _ c.args.index c.in-Some.open c.self.invariant within is in
    let list = take c.self.inside.runs (g.M.Maker.lone_runs c.self.inside.maker) in
    rw (← c.self.view_is) (ap Some (over.1 ∙ own.text) ∙ sym (ap (λ (t : Turned). text_given list t.gives)
    (seen-ends g.M.Run.Lane items c.args.index _ _ c.args.units c.in-Some.open is over.0)))
