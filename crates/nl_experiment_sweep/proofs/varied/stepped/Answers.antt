use Rattle.std.proofs.Common.{◌≡◌, pos, ◌+ℤ◌, ◌*ℤ◌, to_z, of_z, arith, ap, ◌∙◌}
use Rattle.std.specs.Int.{w128}
use Rattle.std.proofs.lemmas.Int.{ints}
use Rattle.nl_fixed.specs.Numbers.{number_at}
use Rattle.nl_experiment_sweep.proofs.Stepped.{between, number_within}
use Rattle.nl_experiment_sweep.proofs.varied.stepped.Goals as goal

pub unreachable-requires : goal.unreachable-requires
unreachable-requires c =
    let sum : to_z w128 (of_z w128 c.millionths_at.result) ≡ c.args.from +ℤ (pos c.args.index *ℤ c.args.step) = omega (arith, ints) in
    let found = c.number_of.ensures ∙ ap number_at sum
    ∙ number_within _ (between c.args.from c.args.step c.args.count c.args.index c.millionths_at.ensures.bound c.requires.values.1 c.requires.values.2 c.requires.below) in
    cc

pub returns : goal.returns
returns c =
    let sum : to_z w128 (of_z w128 c.millionths_at.result) ≡ c.args.from +ℤ (pos c.args.index *ℤ c.args.step) = omega (arith, ints) in
    let found = c.number_of.ensures ∙ ap number_at sum
    ∙ number_within _ (between c.args.from c.args.step c.args.count c.args.index c.millionths_at.ensures.bound c.requires.values.1 c.requires.values.2 c.requires.below) in
    cc
