use Rattle.std.proofs.Common.{◌∙◌, ap}
use Rattle.nl_tree.specs.Tokens.{reporter_of}
use Rattle.nl_parse_reading.proofs.Rows.{apart}
use Rattle.nl_parse_reading.proofs.classes.reporter_of.Goals as goal

pub returns-in-len1-up : goal.returns-in-len1-up
returns-in-len1-up c = c.closed_class.ensures ∙ ap (reporter_of c.args.names) (apart c.args.listed.now c.args.values c.in-len1-up.len_at_least c.if-values-gt0.false)
