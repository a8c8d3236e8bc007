use Rattle.std.proofs.Common.{Err, ap, ◌∙◌, refl}
use Rattle.nl_agents.specs.Changes.{AreTurtlesFull}
use Rattle.nl_agents.specs.declared.refusals.BearFail.TheVariants as bear
use Rattle.nl_birth.specs.Births.{turtle_room, drawn_births, drawn_birth}
use Rattle.nl_birth.specs.Outcomes.{fail_of_bear}
use Rattle.nl_birth.proofs.Counting.{none_so_far, one_more, may_push, ends_refused, ends_made, bear_explained, layout_of, inside_of, drawn_at, drawn_next, no_room, more_room, ok_not_full, scene, same_scene}
use Rattle.nl_birth.proofs.births.bear_all_drawn.Goals as goal

pub bear_drawn-requires : goal.bear_drawn-requires
bear_drawn-requires g c =
    let w = g.S.Store.world c.args.store.now in
    let now = g.S.Store.world c.loop-index.store in
    let k = c.loop-index._index in
    let more = drawn_at c.args.breed c.args.at.now (scene w c.args.stream.now) (scene now c.loop-index.stream) k (turtle_room w) w.rest.turtles_given c.loop-index.made c.loop-index.invariant in
    record { breed = layout_of w now k c.args.breed more c.requires.breed; at = inside_of w now k c.args.at.now more c.requires.at }

pub loop-index-init : goal.loop-index-init
unfolding drawn_births
loop-index-init g c =
    let w = g.S.Store.world c.args.store.now in
    let s = scene w c.args.stream.now in
    none_so_far (drawn_births c.args.breed c.args.at.now s) (turtle_room w) w.rest.turtles_given s c.empty-made.result refl c.empty-made.ensures

pub returns-in_err-turtle : goal.returns-in_err-turtle
returns-in_err-turtle g c =
    let w = g.S.Store.world c.args.store.now in
    let s = scene w c.args.stream.now in
    let after = drawn_births c.args.breed c.args.at.now s in
    let now = scene (g.S.Store.world c.loop-index.store) c.loop-index.stream in
    let next = scene (g.S.Store.world c.bear_drawn.new.store) c.bear_drawn.new.stream in
    let k = c.loop-index._index in
    let fail = c.in_err-turtle.field-0.0 in
    let e = c.in_err-turtle.ensures in
    let more = drawn_at c.args.breed c.args.at.now s now k (turtle_room w) w.rest.turtles_given c.loop-index.made c.loop-index.invariant in
    ends_refused after (turtle_room w) w.rest.turtles_given c.args.count k now next c.loop-index.made c.from_residual.result (fail_of_bear fail) c.from_residual.ensures.1 c.loop-index.invariant
    (same_scene next.world now.world next.stream now.stream e.kept e.undrawn) c.loop-index-test.true
    (bear_explained fail (turtle_room w) k (λ full. no_room w now.world k more (e.full.0 (ap Err full))))

pub push-requires : goal.push-requires
push-requires g c =
    let w = g.S.Store.world c.args.store.now in
    let s = scene w c.args.stream.now in
    let now = scene (g.S.Store.world c.loop-index.store) c.loop-index.stream in
    let k = c.loop-index._index in
    let more = drawn_at c.args.breed c.args.at.now s now k (turtle_room w) w.rest.turtles_given c.loop-index.made c.loop-index.invariant in
    may_push (drawn_births c.args.breed c.args.at.now s) (turtle_room w) w.rest.turtles_given k now c.loop-index.made c.in_ok-turtle.turtle c.loop-index.invariant (c.in_ok-turtle.ensures.serial ∙ more.given)

pub returns-in_err-push : goal.returns-in_err-push
returns-in_err-push g c =
    let w = g.S.Store.world c.args.store.now in
    let s = scene w c.args.stream.now in
    let after = drawn_births c.args.breed c.args.at.now s in
    let now = scene (g.S.Store.world c.loop-index.store) c.loop-index.stream in
    let next = scene (g.S.Store.world c.bear_drawn.new.store) c.bear_drawn.new.stream in
    let next_one = drawn_birth c.args.breed c.args.at.now now in
    let k = c.loop-index._index in
    let e = c.in_ok-turtle.ensures in
    let more = drawn_at c.args.breed c.args.at.now s now k (turtle_room w) w.rest.turtles_given c.loop-index.made c.loop-index.invariant in
    ends_made after (turtle_room w) w.rest.turtles_given c.args.count k next c.from_residual-in_err-push.result c.from_residual-in_err-push.ensures.1
    (drawn_next c.args.breed c.args.at.now s now k (turtle_room w) w.rest.turtles_given c.loop-index.made next c.loop-index.invariant (same_scene next.world next_one.world next.stream next_one.stream e.born e.drawn))
    c.loop-index-test.true (more_room w now.world k more (ok_not_full c.in_ok-turtle.turtle bear.Full (AreTurtlesFull now.world) e.full.1))

pub loop-index-preserved : goal.loop-index-preserved
loop-index-preserved g c =
    let w = g.S.Store.world c.args.store.now in
    let s = scene w c.args.stream.now in
    let after = drawn_births c.args.breed c.args.at.now s in
    let now = scene (g.S.Store.world c.loop-index.store) c.loop-index.stream in
    let next = scene (g.S.Store.world c.bear_drawn.new.store) c.bear_drawn.new.stream in
    let next_one = drawn_birth c.args.breed c.args.at.now now in
    let k = c.loop-index._index in
    let e = c.in_ok-turtle.ensures in
    let more = drawn_at c.args.breed c.args.at.now s now k (turtle_room w) w.rest.turtles_given c.loop-index.made c.loop-index.invariant in
    one_more after (turtle_room w) w.rest.turtles_given k now next c.loop-index.made c.push.new.self c.in_ok-turtle.turtle c.loop-index.invariant
    (drawn_next c.args.breed c.args.at.now s now k (turtle_room w) w.rest.turtles_given c.loop-index.made next c.loop-index.invariant (same_scene next.world next_one.world next.stream next_one.stream e.born e.drawn))
    (e.serial ∙ more.given) c.in_ok-push.ensures.ok
    (more_room w now.world k more (ok_not_full c.in_ok-turtle.turtle bear.Full (AreTurtlesFull now.world) e.full.1))
