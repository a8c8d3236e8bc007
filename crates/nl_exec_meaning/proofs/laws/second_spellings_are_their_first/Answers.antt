use Rattle.nl_exec_meaning.proofs.Families.{second_spellings_are_their_first}
use Rattle.nl_exec_meaning.proofs.laws.second_spellings_are_their_first.Goals as goal

pub returns : goal.returns
returns c = second_spellings_are_their_first
