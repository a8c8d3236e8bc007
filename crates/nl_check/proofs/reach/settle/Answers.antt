use Rattle.std.proofs.Common.{ℕ, ◌<◌, length, All, arith, subst}
use Rattle.std.specs.List.{Contains}
use Rattle.nl_check.specs.inner.Reach.{Settling}
use Rattle.nl_check.proofs.Chains.{begun, settled, all_reached, is_place, callers_inside, next_settling, next_less, no_work}
use Rattle.nl_check.proofs.reach.settle.Goals as goal

pub loop-place-init : goal.loop-place-init
loop-place-init c =
    let work = c.in_ok-work.work.items in
    let all : (i : ℕ) → i < length c.args.callers.now → Contains work i = λ i within. (i, omega (arith, c.in_ok-work.ensures.many), c.in_ok-work.ensures.each i i (omega arith)) in
    let inside : All (λ i. i < length c.args.own.items) work = λ k d within. omega (arith, c.in_ok-work.ensures.each k d (omega (arith, c.in_ok-work.ensures.many)), c.in_ok-work.ensures.many) in
    begun c.args.own.items c.args.callers.now c.requires.places work inside (all_reached c.args.callers.now work all)

pub index-given-requires : goal.index-given-requires
index-given-requires c = omega (arith, is_place c.args.own.items c.args.callers.now c.requires.places c.loop-place.kinds.items c.loop-place.work.items c.pop.new.self.items c.in-Some.place c.loop-place.invariant c.in-Some.ensures.items, c.loop-place.invariant.many)

pub offset_bounds-callers-place : goal.offset_bounds-callers-place
offset_bounds-callers-place c = let within = is_place c.args.own.items c.args.callers.now c.requires.places c.loop-place.kinds.items c.loop-place.work.items c.pop.new.self.items c.in-Some.place c.loop-place.invariant c.in-Some.ensures.items in omega (arith, within, c.requires.many, c.well_formed)

pub bounds-callers-place : goal.bounds-callers-place
bounds-callers-place c = omega (arith, is_place c.args.own.items c.args.callers.now c.requires.places c.loop-place.kinds.items c.loop-place.work.items c.pop.new.self.items c.in-Some.place c.loop-place.invariant c.in-Some.ensures.items, c.requires.many)

pub pass_on-requires : goal.pass_on-requires
pass_on-requires c = callers_inside c.args.own.items c.args.callers.now c.requires.places c.loop-place.kinds.items c.loop-place.work.items c.pop.new.self.items c.in-Some.place c.loop-place.invariant c.in-Some.ensures.items
    c.index-given.result.now c.as_slice.result.now c.index-given.ensures c.requires.many c.index-callers-place.result c.index-callers-place.is c.as_slice.ensures

pub loop-place-smaller : goal.loop-place-smaller
loop-place-smaller c = next_less c.args.own.items c.args.callers.now c.requires.places c.loop-place.kinds.items c.loop-place.work.items c.pop.new.self.items c.in-Some.place c.loop-place.invariant c.in-Some.ensures.items
    c.index-given.result.now c.as_slice.result.now c.index-given.ensures c.requires.many c.index-callers-place.result c.index-callers-place.is c.as_slice.ensures c.pass_on.new.kinds.items c.pass_on.new.work.items c.in_ok-pass_on.ensures.kinds c.in_ok-pass_on.ensures.work

pub loop-place-preserved : goal.loop-place-preserved
loop-place-preserved c = next_settling c.args.own.items c.args.callers.now c.requires.places c.loop-place.kinds.items c.loop-place.work.items c.pop.new.self.items c.in-Some.place c.loop-place.invariant c.in-Some.ensures.items
    c.index-given.result.now c.as_slice.result.now c.index-given.ensures c.requires.many c.index-callers-place.result c.index-callers-place.is c.as_slice.ensures c.pass_on.new.kinds.items c.pass_on.new.work.items c.in_ok-pass_on.ensures.kinds c.in_ok-pass_on.ensures.work

pub returns-clause-many : goal.returns-clause-many
returns-clause-many c = c.loop-place.invariant.many

pub returns-clause-settled : goal.returns-clause-settled
returns-clause-settled c = settled c.args.own.items c.args.callers.now c.requires.places c.loop-place.kinds.items (subst (Settling c.args.own.items c.args.callers.now c.loop-place.kinds.items) (no_work c.loop-place.work.items (omega (arith, c.in_default.ensures.cases.0, c.loop-place.work.ok.0))) c.loop-place.invariant)
