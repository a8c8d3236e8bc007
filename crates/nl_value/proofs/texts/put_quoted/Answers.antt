use Rattle.std.proofs.Common.{arith, get_or, refl, length-append}
use Rattle.nl_fixed.specs.Quoted.{written_byte}
use Rattle.nl_value.proofs.Joined.{pieces_within}
use Rattle.nl_value.proofs.texts.put_quoted.Goals as goal

pub returns-in_err-put_escaped : goal.returns-in_err-put_escaped
returns-in_err-put_escaped c =
    let i = c.loop-byte.byte-index in
    let more = pieces_within written_byte c.args.bytes.now i (get_or c.args.bytes.now i 0) c.loop-byte-test.true refl in
    grind (arith, length-append, more)
