use Rattle.nl_cli.proofs.EachAnswer.{words_have_answers}
use Rattle.nl_cli.proofs.laws.words_have_answers.Goals as goal

pub returns : goal.returns
returns c = words_have_answers
