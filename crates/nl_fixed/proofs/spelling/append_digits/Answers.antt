use Rattle.std.proofs.Common.{◌≡◌, ◌≤◌, ◌+◌, ◌-◌, ◌*◌, ◌^◌, suc, length, sym, arith, ◌∙◌}
use Rattle.nl_fixed.proofs.Digits.{steps_over, room_below, room_more}
use Rattle.nl_fixed.proofs.spelling.append_digits.Goals as goal

pub overflow_mul-appended : goal.overflow_mul-appended
overflow_mul-appended c =
    let k = length c.args.digits.now - (c.loop-byte.byte-index + 1) in
    let left : length c.args.digits.now - c.loop-byte.byte-index ≡ suc k = omega arith in
    let room = room_below c.loop-byte.appended k ((c.args.number + 1) * 10 ^ length c.args.digits.now) (rw left at c.loop-byte.invariant.room) in
    grind arith

pub overflow_add-appended : goal.overflow_add-appended
overflow_add-appended c =
    let k = length c.args.digits.now - (c.loop-byte.byte-index + 1) in
    let left : length c.args.digits.now - c.loop-byte.byte-index ≡ suc k = omega arith in
    let room = room_below c.loop-byte.appended k ((c.args.number + 1) * 10 ^ length c.args.digits.now) (rw left at c.loop-byte.invariant.room) in
    let step = steps_over c.loop-byte.appended c.args.digits.now c.loop-byte.byte-index c.loop-byte-test.true c.loop-byte.invariant.digits in
    grind (arith, step.digit.high)

pub loop-byte-preserved : goal.loop-byte-preserved
loop-byte-preserved c =
    let k = length c.args.digits.now - (c.loop-byte.byte-index + 1) in
    let left : length c.args.digits.now - c.loop-byte.byte-index ≡ suc k = omega arith in
    let step = steps_over c.loop-byte.appended c.args.digits.now c.loop-byte.byte-index c.loop-byte-test.true c.loop-byte.invariant.digits in
    let high = step.digit.high in
    let small : c.from.result ≤ 9 = omega arith in
    record {
      digits = step.rest;
      value = rw c.from.ensures (sym step.value ∙ c.loop-byte.invariant.value);
      room = room_more c.loop-byte.appended c.from.result k ((c.args.number + 1) * 10 ^ length c.args.digits.now) small (rw left at c.loop-byte.invariant.room);
    }
