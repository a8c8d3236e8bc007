use Rattle.std.proofs.Common.{◌<◌, Some, None, sym, ap, ◌∙◌, subst}
use Rattle.nl_grid.specs.Geometry.{patches_of}
use Rattle.nl_motion.specs.Climbing.{centered}
use Rattle.nl_motion.proofs.Climbs.{climb_is, state_is, faced_shape}
use Rattle.nl_motion.proofs.climbing.climb.Goals as goal

pub center-requires-in-Some-clause-patch : goal.center-requires-in-Some-clause-patch
center-requires-in-Some-clause-patch g c =
    let same = ap (λ w. w.rest.shape) c.face.ensures.world ∙ faced_shape c.args.turtle c.home-from.result c.in-Some.to (g.S.Store.world c.center.new.store) in
    subst (λ plane. c.in-Some.to < patches_of plane) (sym same) c.in-Some.ensures.below

pub returns-in-Some-clause-world : goal.returns-in-Some-clause-world
returns-in-Some-clause-world g c =
    c.center-in-Some.ensures.world ∙ ap (centered c.args.turtle c.in-Some.to) c.face.ensures.world
    ∙ climb_is c.args.turtle c.args.slot c.args.up c.args.four (g.S.Store.world c.args.store.now) c.args.stream.now c.home-from.result _ (Some c.in-Some.to)
    c.home-from.ensures.patch c.center.ensures.world c.in-Some.ensures.end

pub returns-in-Some-clause-stream : goal.returns-in-Some-clause-stream
returns-in-Some-clause-stream g c =
    c.in-Some.ensures.stream
    ∙ state_is c.args.turtle c.args.slot c.args.up c.args.four (g.S.Store.world c.args.store.now) c.args.stream.now c.home-from.result (g.S.Store.world c.center.new.store)
    c.home-from.ensures.patch c.center.ensures.world

pub returns-in_default-clause-world : goal.returns-in_default-clause-world
returns-in_default-clause-world g c =
    climb_is c.args.turtle c.args.slot c.args.up c.args.four (g.S.Store.world c.args.store.now) c.args.stream.now c.home-from.result _ None
    c.home-from.ensures.patch c.center.ensures.world (sym c.in_default.is ∙ c.destination.ensures.end)

pub returns-in_default-clause-stream : goal.returns-in_default-clause-stream
returns-in_default-clause-stream g c =
    c.destination.ensures.stream
    ∙ state_is c.args.turtle c.args.slot c.args.up c.args.four (g.S.Store.world c.args.store.now) c.args.stream.now c.home-from.result (g.S.Store.world c.center.new.store)
    c.home-from.ensures.patch c.center.ensures.world
