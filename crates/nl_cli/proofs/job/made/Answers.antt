use Rattle.std.proofs.Common.{◌∙◌, subst}
use Rattle.nl_fixed.specs.Nouns.{Bytes}
use Rattle.nl_bench.specs.Texts.{model_text}
use Rattle.nl_cli.specs.inner.Stages.{Judges}
use Rattle.nl_cli.proofs.GatherSteps.{made_says}
use Rattle.nl_cli.proofs.job.made.Goals as goal

pub returns : goal.returns
returns c =
    let P : Bytes → Type 0 = λ m. Judges m c.as_bytes.result.now c.judged.result in
    let Q : Bytes → Type 0 = λ e. Judges model_text e c.judged.result in
    made_says c.args.size c.judged.result (subst Q (c.as_bytes.ensures ∙ c.in-Ok-experiment.ensures) (subst P c.in-Ok.ensures c.judged.ensures))
