use Rattle.nl_table.proofs.Fronts.{lines_have_their_end, fronts_have_no_end}
use Rattle.nl_table.proofs.laws.lines_are_pieces.Goals as goal

pub returns-clause-whole : goal.returns-clause-whole
returns-clause-whole c = lines_have_their_end

pub returns-clause-fronts : goal.returns-clause-fronts
returns-clause-fronts c = fronts_have_no_end
