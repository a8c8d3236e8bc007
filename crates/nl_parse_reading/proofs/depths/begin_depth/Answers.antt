use Rattle.std.proofs.Common.{arith, ◌∙◌, ◌-◌, ap, sym, length}
use Rattle.nl_parse_grammar.specs.Depth.{begin_depth}
use Rattle.nl_parse_reading.specs.inner.Limit.{capped}
use Rattle.nl_parse_reading.proofs.Capped.{newest_of}
use Rattle.nl_parse_reading.proofs.depths.begin_depth.Goals as goal

pub returns-in-len1-up : goal.returns-in-len1-up
returns-in-len1-up c =
    let fs = c.args.frames.now in
    λ e. c.begin_within.ensures e ∙ ap (λ K. capped (begin_depth K)) (sym (newest_of fs (length fs - 1) c.newest-item.result e (omega (arith, c.in-len1-up.len_at_least)) c.newest-item.is))
