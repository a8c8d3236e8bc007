use Rattle.std.proofs.Common.{◌∙◌}
use Rattle.nl_parse_reading.proofs.Rows.{with_none, with_more}
use Rattle.nl_parse_reading.proofs.classes.is_with.Goals as goal

pub returns-then-values-gt0 : goal.returns-then-values-gt0
returns-then-values-gt0 c = with_more c.args.listed.now c.args.values c.if-values-gt0.true

pub returns : goal.returns
returns c = c.is_pair.ensures ∙ with_none c.args.listed.now c.args.values c.if-values-gt0.false
