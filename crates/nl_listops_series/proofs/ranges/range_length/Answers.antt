use Rattle.std.proofs.Common.{subst, ◌≡◌, rules, ◌<◌}
use Rattle.nl_fixed.specs.Numbers.{IsInRange}
use Rattle.nl_listops_series.specs.Ranges.{range_length}
use Rattle.nl_listops_series.proofs.Rows.{number_in_range}
use Rattle.nl_listops_series.proofs.ranges.range_length.Goals as goal

pub returns-then-step-lt0-clause-in_range : goal.returns-then-step-lt0-clause-in_range
returns-then-step-lt0-clause-in_range c =
    let is : c.steps_within.result ≡ range_length c.args.start c.args.bound c.args.step = search rules in
    λ k h.
    number_in_range c.args.start c.args.bound c.args.step (subst IsInRange c.millionths.ensures.value c.millionths.ensures.bound) (subst IsInRange c.millionths-2.ensures.value c.millionths-2.ensures.bound) c.requires k (subst (λ n. k < n) is h)

pub returns-else-step-lt0-clause-in_range : goal.returns-else-step-lt0-clause-in_range
returns-else-step-lt0-clause-in_range c =
    let is : c.steps_within-else-step-lt0.result ≡ range_length c.args.start c.args.bound c.args.step = search rules in
    λ k h.
    number_in_range c.args.start c.args.bound c.args.step (subst IsInRange c.millionths.ensures.value c.millionths.ensures.bound) (subst IsInRange c.millionths-2.ensures.value c.millionths-2.ensures.bound) c.requires k (subst (λ n. k < n) is h)
