use Rattle.nl_bench.specs.Texts.{experiment_text}
use Rattle.nl_bench.proofs.Joined.{joined}
use Rattle.nl_bench.proofs.texts.experiment.Goals as goal

pub returns : goal.returns
unfolding experiment_text
returns c =
    joined _ _ _ _ _ _ _ _ _ _ c.in_ok-text.ensures.ok c.in_ok-append_digits.ensures c.in_ok-append.ensures.ok c.in_ok-append_digits-2.ensures c.in_ok-append-2.ensures.ok
