use Rattle.std.proofs.Common.{◌+◌, ◌<◌, length, arith}
use Rattle.std.proofs.lemmas.Int.{to_z-of_z}
use Rattle.nl_fixed.proofs.Words.{ended_value, some_of_two}
use Rattle.nl_fixed.proofs.spelling.read_ended.Goals as goal
use Rattle.nl_fixed.proofs.spelling.read_ended.Goals.{else-is_empty-via-then-is_empty+else-is_empty-2, else-is_empty-via-else-is_empty}

pub returns : goal.returns
returns c =
    let m = length c.args.whole.now in
    let n = length c.args.fraction.now in
    let some : 0 < m + n = elim c.else-is_empty.branch [
      | else-is_empty-via-then-is_empty+else-is_empty-2 w ↦ (some_of_two m n w.is_empty-then-is_empty.result w.is_empty-then-is_empty.ensures w.if-is_empty-2.false).0
      | else-is_empty-via-else-is_empty w ↦ (some_of_two n m c.is_empty.result c.is_empty.ensures w.if-is_empty.false).1
    ] in
    λ point. ended_value c.args.negative c.args.whole.now point c.args.fraction.now c.args.rest.now c.in_ok-exponent.exponent c.decimal_value.result some c.in_ok-exponent.ensures.value (grind (arith, to_z-of_z))
