use Rattle.nl_table.proofs.Fronts.{fronts_are_cut}
use Rattle.nl_table.proofs.laws.fronts_are_cut_into_lines.Goals as goal

pub returns : goal.returns
returns c = fronts_are_cut
