use Rattle.std.proofs.Common.{◌∷◌, arith, ap, sym, ◌∙◌, ◌++◌, length, length-append, suc}
use Rattle.nl_value.proofs.Sameness.{item_fits}
use Rattle.nl_value.proofs.Weighing.{item_weighs}
use Rattle.nl_value.proofs.Joined.{split_seen, joined_seen, spaced_within, written_on, written_so_far}
use Rattle.nl_value.proofs.texts.+text.Goals as goal

pub put_spaced-returns-in_err-put : goal.put_spaced-returns-in_err-put
put_spaced-returns-in_err-put g t c =
    let w = g.L.Life.living c.args.life.now in
    let seen = split_seen c.deref.result.now c.items.inside.list.items c.in-Some.first.now c.in-Some.others.now c.args.items.now c.in-Some.ensures.cases.0 c.deref.ensures.value c.items.view_is in
    let whole = ap length (joined_seen w c.in-Some.first.now c.in-Some.others.now c.args.items.now seen) in
    let within = spaced_within w c.in-Some.others.now c.loop-other.other-index c.other-item.result c.loop-other-test.true c.other-item.is in
    let first = ap length c.in_ok-put_value.ensures.0 in
    let so_far = ap length c.loop-other.invariant.written in
    grind (arith, length-append, whole, within, first, so_far)

pub put_spaced-put_value-requires-in-loop-other : goal.put_spaced-put_value-requires-in-loop-other
put_spaced-put_value-requires-in-loop-other g t c =
    let w = g.L.Life.living c.args.life.now in
    let seen = split_seen c.deref.result.now c.items.inside.list.items c.in-Some.first.now c.in-Some.others.now c.args.items.now c.in-Some.ensures.cases.0 c.deref.ensures.value c.items.view_is in
    let less = item_weighs (c.in-Some.first.now ∷ c.in-Some.others.now) c.args.items.now (suc c.loop-other.other-index) c.other-item.result seen (omega arith) c.other-item.is in
    let fit = item_fits w (c.in-Some.first.now ∷ c.in-Some.others.now) c.args.items.now (suc c.loop-other.other-index) c.other-item.result seen (omega arith) c.other-item.is c.requires in
    λ κs q. (omega (arith, less, c.decreases), (q, fit))

pub put_spaced-returns-in_err-put_value-2 : goal.put_spaced-returns-in_err-put_value-2
put_spaced-returns-in_err-put_value-2 g t c =
    let w = g.L.Life.living c.args.life.now in
    let seen = split_seen c.deref.result.now c.items.inside.list.items c.in-Some.first.now c.in-Some.others.now c.args.items.now c.in-Some.ensures.cases.0 c.deref.ensures.value c.items.view_is in
    let whole = ap length (joined_seen w c.in-Some.first.now c.in-Some.others.now c.args.items.now seen) in
    let within = spaced_within w c.in-Some.others.now c.loop-other.other-index c.other-item.result c.loop-other-test.true c.other-item.is in
    let first = ap length c.in_ok-put_value.ensures.0 in
    let so_far = ap length c.loop-other.invariant.written in
    let lead = ap length c.in_ok-put.ensures.0 in
    grind (arith, length-append, whole, within, first, so_far, lead)

pub put_spaced-loop-other-preserved : goal.put_spaced-loop-other-preserved
put_spaced-loop-other-preserved g t c =
    record {
      written = written_on (g.L.Life.living c.args.life.now) c.put_value.new.out c.loop-other.out c.put.new.out c.put_value-in-loop-other.new.out c.in-Some.others.now c.loop-other.other-index c.other-item.result
          c.loop-other-test.true c.other-item.is c.loop-other.invariant.written c.in_ok-put.ensures.0 c.in_ok-put_value-2.ensures.0;
      within = λ short. c.in_ok-put_value-2.ensures.1 (c.in_ok-put.ensures.1 (c.loop-other.invariant.within short));
    }

pub put_spaced-returns : goal.put_spaced-returns
put_spaced-returns g t c =
    let w = g.L.Life.living c.args.life.now in
    let seen = split_seen c.deref.result.now c.items.inside.list.items c.in-Some.first.now c.in-Some.others.now c.args.items.now c.in-Some.ensures.cases.0 c.deref.ensures.value c.items.view_is in
    let written =
    written_so_far w c.args.out.now c.put_value.new.out c.loop-other.out c.in-Some.first.now c.in-Some.others.now c.loop-other.other-index c.in_ok-put_value.ensures.0 c.loop-other.invariant.written c.loop-other-test.false
    ∙ ap (λ s. c.args.out.now ++ s) (sym (joined_seen w c.in-Some.first.now c.in-Some.others.now c.args.items.now seen)) in
    (written, λ short. c.loop-other.invariant.within (c.in_ok-put_value.ensures.1 short), λ wrong. cc)
