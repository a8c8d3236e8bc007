use Rattle.std.proofs.Common.{arith, ◌∙◌, suc, max, false, []}
use Rattle.nl_tree.specs.Tree.{depths}
use Rattle.nl_parse_grammar.specs.Depth.{least_inputs}
use Rattle.nl_parse_reading.specs.inner.View.{needs_of}
use Rattle.nl_parse_reading.specs.inner.Reading.{frames_onto}
use Rattle.nl_parse_reading.proofs.Capped.{capped_part}
use Rattle.nl_parse_reading.proofs.depths.optional_within.Goals as goal

pub returns-in-Call : goal.returns-in-Call
returns-in-Call c = λ e. rw c.in-Call.is (c.whole_depth.ensures e ∙ capped_part false c.deeper-depth.result (suc (max (depths c.in-Call.inputs) (least_inputs (needs_of c.in-Call.rest) c.in-Call.last))) (frames_onto c.args.below.now e []) (omega (arith, c.deeper-depth.ensures, c.max.ensures, c.depth.ensures, c.least_inputs.ensures)))
