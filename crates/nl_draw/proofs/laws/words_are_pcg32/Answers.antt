use Rattle.nl_draw.proofs.Words.{started-words}
use Rattle.nl_draw.proofs.laws.words_are_pcg32.Goals as goal

pub returns : goal.returns
returns c = started-words
