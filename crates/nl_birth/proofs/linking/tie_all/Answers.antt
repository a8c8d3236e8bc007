use Rattle.std.proofs.Common.{length, get_or, Err, ap, ◌∙◌, refl, arith}
use Rattle.nl_agents.specs.Changes.{TurtleLives, AreLinksFull}
use Rattle.nl_agents.specs.declared.refusals.TieFail.TheVariants as tie
use Rattle.nl_birth.specs.Links.{first_ties, tied_to_all, link_room}
use Rattle.nl_birth.specs.Outcomes.{fail_of_tie}
use Rattle.nl_birth.proofs.Counting.{none_so_far, one_more, may_push, ends_refused, ends_made, ok_not_full}
use Rattle.nl_birth.proofs.Tying.{linked_at, next_tie, none_between, lives_now, breed_now, first_is, second_is, ends_apart, not_listed, no_link_room, more_link_room, tie_explained}
use Rattle.nl_birth.proofs.linking.tie_all.Goals as goal

pub tie-requires : goal.tie-requires
tie-requires g c =
    let w = g.S.Store.world c.args.store.now in
    let ts = c.args.targets.now in
    let now = g.S.Store.world c.loop-target.store in
    let k = c.loop-target.target-index in
    let test = c.loop-target-test.true in
    let room = link_room w in
    let first = w.rest.links_given in
    let more = linked_at c.args.way c.args.breed c.args.caller ts w now k room first c.loop-target.made c.loop-target.invariant (omega (arith, test)) in
    let t = get_or ts k 0 in
    let ends = c.ends-end1.result in
    let one = c.ends-end1.ensures.first in
    let two = c.ends-end1.ensures.second in
    let caller = lives_now w now k c.args.caller more c.requires.caller in
    let target = lives_now w now k t more (c.requires.targets k 0 test) in
    record {
      breed = breed_now w now k c.args.breed more c.requires.breed;
      first = first_is (λ x. TurtleLives x now) c.args.way c.args.caller t ends.0 one caller target;
      second = second_is (λ x. TurtleLives x now) c.args.way c.args.caller t ends.1 two caller target;
      apart = ends_apart c.args.way c.args.caller t ends.0 ends.1 (not_listed ts c.args.caller k c.requires.apart test) one two;
      none = none_between c.args.way c.args.breed c.args.caller ts w now k room first c.loop-target.made c.loop-target.invariant test c.requires.ascending c.requires.free c.has_direction.result ends.0 ends.1 c.has_direction.ensures one two;
    }

pub loop-target-init : goal.loop-target-init
unfolding tied_to_all
loop-target-init g c =
    let w = g.S.Store.world c.args.store.now in
    none_so_far (first_ties c.args.way c.args.breed c.args.caller c.args.targets.now w) (link_room w) w.rest.links_given w c.empty-made.result refl c.empty-made.ensures

pub returns-in_err-link : goal.returns-in_err-link
returns-in_err-link g c =
    let w = g.S.Store.world c.args.store.now in
    let ts = c.args.targets.now in
    let now = g.S.Store.world c.loop-target.store in
    let k = c.loop-target.target-index in
    let test = c.loop-target-test.true in
    let room = link_room w in
    let first = w.rest.links_given in
    let more = linked_at c.args.way c.args.breed c.args.caller ts w now k room first c.loop-target.made c.loop-target.invariant (omega (arith, test)) in
    let after = first_ties c.args.way c.args.breed c.args.caller ts w in
    let next = g.S.Store.world c.tie.new.self in
    let fail = c.in_err-link.field-0.0 in
    let e = c.in_err-link.ensures in
    ends_refused after room first (length ts) k now next c.loop-target.made c.from_residual.result (fail_of_tie fail) c.from_residual.ensures.1 c.loop-target.invariant e.kept test
    (tie_explained fail room k (λ full. no_link_room w now k more (e.full.0 (ap Err full))))

pub push-requires : goal.push-requires
push-requires g c =
    let w = g.S.Store.world c.args.store.now in
    let ts = c.args.targets.now in
    let now = g.S.Store.world c.loop-target.store in
    let k = c.loop-target.target-index in
    let test = c.loop-target-test.true in
    let room = link_room w in
    let first = w.rest.links_given in
    let more = linked_at c.args.way c.args.breed c.args.caller ts w now k room first c.loop-target.made c.loop-target.invariant (omega (arith, test)) in
    may_push (first_ties c.args.way c.args.breed c.args.caller ts w) room first k now c.loop-target.made c.in_ok-link.link c.loop-target.invariant (c.in_ok-link.ensures.serial ∙ more.given)

pub returns-in_err-push : goal.returns-in_err-push
returns-in_err-push g c =
    let w = g.S.Store.world c.args.store.now in
    let ts = c.args.targets.now in
    let now = g.S.Store.world c.loop-target.store in
    let k = c.loop-target.target-index in
    let test = c.loop-target-test.true in
    let room = link_room w in
    let first = w.rest.links_given in
    let more = linked_at c.args.way c.args.breed c.args.caller ts w now k room first c.loop-target.made c.loop-target.invariant (omega (arith, test)) in
    let after = first_ties c.args.way c.args.breed c.args.caller ts w in
    let next = g.S.Store.world c.tie.new.self in
    let e = c.in_ok-link.ensures in
    let ends = c.ends-end1.result in
    let step = next_tie c.args.way c.args.breed c.args.caller ts w now k room first c.loop-target.made c.loop-target.invariant test next c.has_direction.result ends.0 ends.1 e.tied c.has_direction.ensures c.ends-end1.ensures.first c.ends-end1.ensures.second in
    let fits = more_link_room w now k more (ok_not_full c.in_ok-link.link tie.Full (AreLinksFull now) e.full.1) in
    ends_made after room first (length ts) k next c.from_residual-in_err-push.result c.from_residual-in_err-push.ensures.1 step test fits

pub loop-target-preserved : goal.loop-target-preserved
loop-target-preserved g c =
    let w = g.S.Store.world c.args.store.now in
    let ts = c.args.targets.now in
    let now = g.S.Store.world c.loop-target.store in
    let k = c.loop-target.target-index in
    let test = c.loop-target-test.true in
    let room = link_room w in
    let first = w.rest.links_given in
    let more = linked_at c.args.way c.args.breed c.args.caller ts w now k room first c.loop-target.made c.loop-target.invariant (omega (arith, test)) in
    let after = first_ties c.args.way c.args.breed c.args.caller ts w in
    let next = g.S.Store.world c.tie.new.self in
    let e = c.in_ok-link.ensures in
    let ends = c.ends-end1.result in
    let step = next_tie c.args.way c.args.breed c.args.caller ts w now k room first c.loop-target.made c.loop-target.invariant test next c.has_direction.result ends.0 ends.1 e.tied c.has_direction.ensures c.ends-end1.ensures.first c.ends-end1.ensures.second in
    let fits = more_link_room w now k more (ok_not_full c.in_ok-link.link tie.Full (AreLinksFull now) e.full.1) in
    one_more after room first k now next c.loop-target.made c.push.new.self c.in_ok-link.link c.loop-target.invariant step (e.serial ∙ more.given) c.in_ok-push.ensures.ok fits
