use Rattle.nl_bench.specs.Texts.{model_text}
use Rattle.nl_bench.proofs.texts.model.Goals as goal

pub returns : goal.returns
unfolding model_text
returns c = c.of.ensures.ok
