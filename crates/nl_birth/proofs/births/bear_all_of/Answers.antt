use Rattle.std.proofs.Common.{Err, ap, ◌∙◌, refl}
use Rattle.nl_agents.specs.Changes.{AreTurtlesFull}
use Rattle.nl_agents.specs.declared.refusals.BearFail.TheVariants as bear
use Rattle.nl_birth.specs.Births.{turtle_room, hatchings}
use Rattle.nl_birth.specs.Outcomes.{fail_of_bear}
use Rattle.nl_birth.proofs.Counting.{none_so_far, one_more, may_push, ends_refused, ends_made, bear_explained, layout_of, inside_of, hatched_at, hatched_next, no_room, more_room, ok_not_full, hatched_alike, inside_alike, lives_still}
use Rattle.nl_birth.proofs.births.bear_all_of.Goals as goal

pub bear-requires : goal.bear-requires
bear-requires g c =
    let w = g.S.Store.world c.args.store.now in
    let now = g.S.Store.world c.loop-index.store in
    let k = c.loop-index._index in
    let more = hatched_at c.args.breed c.args.parent c.args.at.now w now k (turtle_room w) w.rest.turtles_given c.loop-index.made c.loop-index.invariant in
    record {
      breed = layout_of w now k c.args.breed more c.requires.breed;
      at = inside_alike now c.copy_of.result c.args.at.now c.copy_of.ensures (inside_of w now k c.args.at.now more c.requires.at);
      parent = lives_still c.args.breed c.args.parent c.args.at.now w now k c.loop-index.invariant.leaves c.requires.parent;
    }

pub loop-index-init : goal.loop-index-init
unfolding hatchings
loop-index-init g c =
    let w = g.S.Store.world c.args.store.now in
    none_so_far (hatchings c.args.breed c.args.parent c.args.at.now w) (turtle_room w) w.rest.turtles_given w c.empty-made.result refl c.empty-made.ensures

pub returns-in_err-turtle : goal.returns-in_err-turtle
returns-in_err-turtle g c =
    let w = g.S.Store.world c.args.store.now in
    let now = g.S.Store.world c.loop-index.store in
    let k = c.loop-index._index in
    let after = hatchings c.args.breed c.args.parent c.args.at.now w in
    let next = g.S.Store.world c.bear.new.self in
    let fail = c.in_err-turtle.field-0.0 in
    let e = c.in_err-turtle.ensures in
    let more = hatched_at c.args.breed c.args.parent c.args.at.now w now k (turtle_room w) w.rest.turtles_given c.loop-index.made c.loop-index.invariant in
    ends_refused after (turtle_room w) w.rest.turtles_given c.args.count k now next c.loop-index.made c.from_residual.result (fail_of_bear fail) c.from_residual.ensures.1 c.loop-index.invariant e.kept
    c.loop-index-test.true (bear_explained fail (turtle_room w) k (λ full. no_room w now k more (e.full.0 (ap Err full))))

pub push-requires : goal.push-requires
push-requires g c =
    let w = g.S.Store.world c.args.store.now in
    let now = g.S.Store.world c.loop-index.store in
    let k = c.loop-index._index in
    let more = hatched_at c.args.breed c.args.parent c.args.at.now w now k (turtle_room w) w.rest.turtles_given c.loop-index.made c.loop-index.invariant in
    may_push (hatchings c.args.breed c.args.parent c.args.at.now w) (turtle_room w) w.rest.turtles_given k now c.loop-index.made c.in_ok-turtle.turtle c.loop-index.invariant (c.in_ok-turtle.ensures.serial ∙ more.given)

pub returns-in_err-push : goal.returns-in_err-push
returns-in_err-push g c =
    let w = g.S.Store.world c.args.store.now in
    let now = g.S.Store.world c.loop-index.store in
    let k = c.loop-index._index in
    let after = hatchings c.args.breed c.args.parent c.args.at.now w in
    let next = g.S.Store.world c.bear.new.self in
    let more = hatched_at c.args.breed c.args.parent c.args.at.now w now k (turtle_room w) w.rest.turtles_given c.loop-index.made c.loop-index.invariant in
    let e = c.in_ok-turtle.ensures in
    let step = hatched_next c.args.breed c.args.parent c.args.at.now w now k (turtle_room w) w.rest.turtles_given c.loop-index.made next c.loop-index.invariant
    (hatched_alike next now c.args.breed c.copy_of.result c.args.at.now c.args.parent e.born c.copy_of.ensures) in
    let room = more_room w now k more (ok_not_full c.in_ok-turtle.turtle bear.Full (AreTurtlesFull now) e.full.1) in
    ends_made after (turtle_room w) w.rest.turtles_given c.args.count k next c.from_residual-in_err-push.result c.from_residual-in_err-push.ensures.1 step c.loop-index-test.true room

pub loop-index-preserved : goal.loop-index-preserved
loop-index-preserved g c =
    let w = g.S.Store.world c.args.store.now in
    let now = g.S.Store.world c.loop-index.store in
    let k = c.loop-index._index in
    let after = hatchings c.args.breed c.args.parent c.args.at.now w in
    let next = g.S.Store.world c.bear.new.self in
    let more = hatched_at c.args.breed c.args.parent c.args.at.now w now k (turtle_room w) w.rest.turtles_given c.loop-index.made c.loop-index.invariant in
    let e = c.in_ok-turtle.ensures in
    let step = hatched_next c.args.breed c.args.parent c.args.at.now w now k (turtle_room w) w.rest.turtles_given c.loop-index.made next c.loop-index.invariant
    (hatched_alike next now c.args.breed c.copy_of.result c.args.at.now c.args.parent e.born c.copy_of.ensures) in
    let room = more_room w now k more (ok_not_full c.in_ok-turtle.turtle bear.Full (AreTurtlesFull now) e.full.1) in
    one_more after (turtle_room w) w.rest.turtles_given k now next c.loop-index.made c.push.new.self c.in_ok-turtle.turtle c.loop-index.invariant step (e.serial ∙ more.given) c.in_ok-push.ensures.ok room
