use Rattle.nl_exec_meaning.proofs.Families.{words_are_of_one_family}
use Rattle.nl_exec_meaning.proofs.laws.words_are_of_one_family.Goals as goal

pub returns : goal.returns
returns c = words_are_of_one_family
