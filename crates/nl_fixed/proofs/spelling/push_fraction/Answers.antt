use Rattle.std.proofs.Common.{◌-◌, arith}
use Rattle.nl_fixed.proofs.Texts.{power_above, digit_below, rest_below, written_more, written_all}
use Rattle.nl_fixed.proofs.spelling.push_fraction.Goals as goal

pub nonzero_div-rest : goal.nonzero_div-rest
nonzero_div-rest c = omega (arith, c.pow-unit.ensures, power_above (c.loop-rest.places - 1))

pub overflow_cast-rest : goal.overflow_cast-rest
overflow_cast-rest c =
    let small = digit_below c.loop-rest.rest c.loop-rest.places c.pow-unit.result c.loop-rest-test.true c.loop-rest.invariant.below c.pow-unit.ensures in
    omega (arith, small)

pub overflow_add-rest : goal.overflow_add-rest
overflow_add-rest c =
    let small = digit_below c.loop-rest.rest c.loop-rest.places c.pow-unit.result c.loop-rest-test.true c.loop-rest.invariant.below c.pow-unit.ensures in
    omega (arith, small)

pub nonzero_rem-rest : goal.nonzero_rem-rest
nonzero_rem-rest c = omega (arith, c.pow-unit.ensures, power_above (c.loop-rest.places - 1))

pub loop-rest-preserved : goal.loop-rest-preserved
loop-rest-preserved c = record {
  few = omega arith;
  below = rest_below c.loop-rest.rest (c.loop-rest.places - 1) c.pow-unit.result c.pow-unit.ensures;
  written = rw (c.in_ok-push-2.ensures.items, c.pow-unit.ensures)
      (written_more c.loop-rest.text.items _ c.loop-rest.places c.loop-rest.rest c.loop-rest-test.true c.loop-rest.invariant.below c.loop-rest.invariant.written);
}

pub returns : goal.returns
returns c =
    written_all c.args.text.now.items c.push.new.self.items c.loop-rest.text.items c.loop-rest.places c.loop-rest.rest c.args.millionths (omega arith) c.if-millionths-eq0.false c.in_ok-push.ensures.items c.loop-rest.invariant.written
