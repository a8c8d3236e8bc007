use Rattle.std.proofs.Common.{arith, ◌∙◌, suc, false, []}
use Rattle.nl_tree.specs.Tree.{depths}
use Rattle.nl_parse_reading.specs.inner.Reading.{frames_onto}
use Rattle.nl_parse_reading.proofs.Capped.{capped_part}
use Rattle.nl_parse_reading.proofs.depths.begin_within.Goals as goal

pub returns-in-Items : goal.returns-in-Items
returns-in-Items c = λ e. rw c.in-Items.is (c.whole_depth-in-Items.ensures e ∙ capped_part false c.deeper-in-Items.result (suc (suc (depths c.in-Items.items))) (frames_onto c.args.below.now e []) (omega (arith, c.deeper-in-Items.ensures, c.deeper.ensures, c.depth.ensures)))
