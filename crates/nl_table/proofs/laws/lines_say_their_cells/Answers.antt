use Rattle.nl_table.proofs.FoundAgain.{lines_say_their_cells}
use Rattle.nl_table.proofs.laws.lines_say_their_cells.Goals as goal

pub returns : goal.returns
returns c = lines_say_their_cells
