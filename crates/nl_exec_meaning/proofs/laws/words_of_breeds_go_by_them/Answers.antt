use Rattle.nl_exec_meaning.proofs.Families.{words_of_breeds_go_by_them}
use Rattle.nl_exec_meaning.proofs.laws.words_of_breeds_go_by_them.Goals as goal

pub returns : goal.returns
returns c = words_of_breeds_go_by_them
