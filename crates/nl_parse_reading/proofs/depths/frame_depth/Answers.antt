use Rattle.nl_parse_reading.proofs.depths.frame_depth.Goals as goal

pub returns-in-Bracket : goal.returns-in-Bracket
returns-in-Bracket c = λ e. rw c.in-Bracket.is (c.bracket_depth.ensures c.in-Bracket.field-0)
