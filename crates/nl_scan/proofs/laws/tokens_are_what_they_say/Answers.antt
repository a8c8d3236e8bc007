use Rattle.nl_scan.proofs.CutLaws.{tokens_are_meant}
use Rattle.nl_scan.proofs.laws.tokens_are_what_they_say.Goals as goal

pub returns : goal.returns
returns c = tokens_are_meant
