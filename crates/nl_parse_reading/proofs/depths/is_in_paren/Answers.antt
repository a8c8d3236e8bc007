use Rattle.std.proofs.Common.{arith, ◌∙◌, ◌-◌, ap, sym, length, take, []}
use Rattle.nl_parse_reading.specs.inner.Asked.{is_in_paren}
use Rattle.nl_parse_reading.specs.inner.Reading.{frames_onto, names_onto}
use Rattle.nl_parse_reading.proofs.Capped.{newest_of}
use Rattle.nl_parse_reading.proofs.depths.is_in_paren.Goals as goal

pub returns-in-len1-up : goal.returns-in-len1-up
returns-in-len1-up c =
    let fs = c.args.frames.now in
    let k = length fs - 1 in
    λ e. c.is_paren.ensures (names_onto (take k fs) e) (frames_onto (take k fs) e []) ∙ ap is_in_paren (sym (newest_of fs k c.newest-item.result e (omega (arith, c.in-len1-up.len_at_least)) c.newest-item.is))
