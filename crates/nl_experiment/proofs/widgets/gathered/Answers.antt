use Rattle.std.proofs.Common.{◌≡◌, ap, length, drop, arith}
use Rattle.std.proofs.lemmas.List.{drop_all}
use Rattle.nl_experiment.proofs.Gathering.{all_right}
use Rattle.nl_experiment.proofs.widgets.gathered.Goals as goal

pub returns-clause-right : goal.returns-clause-right
returns-clause-right c =
    let left = drop c.names.name-index c.args.names.now in
    let none : length left ≡ 0 = ap length (drop_all c.names.name-index c.args.names.now (grind (arith, c.names-test.false))) in
    all_right c.args.names.now c.names.known c.names.widgets left none c.names.invariant.0 c.names.invariant.1
