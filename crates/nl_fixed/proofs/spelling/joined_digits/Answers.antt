use Rattle.std.proofs.Common.{length, arith, ◌∙◌, sym, ap}
use Rattle.std.specs.Str.Parse.{digits_value_after}
use Rattle.nl_fixed.proofs.Digits.{digits_value_after-append, room_first, room_second}
use Rattle.nl_fixed.proofs.spelling.joined_digits.Goals as goal

pub append_digits-requires-clause-fits : goal.append_digits-requires-clause-fits
append_digits-requires-clause-fits c = room_first (length c.args.whole.now) (omega arith)

pub append_digits-requires-2-clause-fits : goal.append_digits-requires-2-clause-fits
append_digits-requires-2-clause-fits c =
    room_second c.append_digits.result (length c.args.whole.now) (length c.args.fraction.now) c.requires.few c.append_digits.ensures.below

pub returns-clause-value : goal.returns-clause-value
returns-clause-value c =
    c.append_digits-2.ensures.value ∙ ap (λ n. digits_value_after 10 n c.args.fraction.now) c.append_digits.ensures.value
    ∙ sym (digits_value_after-append 0 c.args.whole.now c.args.fraction.now)

pub returns-clause-small : goal.returns-clause-small
returns-clause-small c =
    let room = room_second c.append_digits.result (length c.args.whole.now) (length c.args.fraction.now) c.requires.few c.append_digits.ensures.below in
    omega arith
