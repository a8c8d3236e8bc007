use Rattle.std.proofs.Common.{arith, ◌∙◌, suc, max, false, []}
use Rattle.nl_tree.specs.Tree.{depth}
use Rattle.nl_parse_reading.specs.inner.Reading.{frames_onto}
use Rattle.nl_parse_reading.proofs.Capped.{capped_part}
use Rattle.nl_parse_reading.proofs.depths.blocked_depth.Goals as goal

pub returns : goal.returns
returns c = λ e. c.whole_depth.ensures e ∙ capped_part false c.deeper.result (suc (max (depth c.args.block.now) 1)) (frames_onto c.args.frames.now e []) (omega (arith, c.deeper.ensures, c.max.ensures, c.depth.ensures))
