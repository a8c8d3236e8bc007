use Rattle.std.proofs.Common.{◌<◌, length, arith}
use Rattle.nl_experiment_fields.proofs.Lists.{listed, some_values}
use Rattle.nl_experiment_fields.proofs.choices.listed_in.Goals as goal

pub returns-clause-gives : goal.returns-clause-gives
returns-clause-gives c =
    let some : 0 < length c.args.items.now = grind (arith, c.is_empty.ensures, c.if-is_empty.false) in
    listed c.args.name.now c.args.items.now c.in_ok-values.values some c.in_ok-values.ensures

pub returns-clause-values : goal.returns-clause-values
returns-clause-values c =
    let some : 0 < length c.args.items.now = grind (arith, c.is_empty.ensures, c.if-is_empty.false) in
    some_values c.args.name.now c.args.items.now c.in_ok-values.values some c.in_ok-values.ensures
