use Rattle.std.proofs.Common.{drop}
use Rattle.nl_experiment.specs.Numbers.{number_of}
use Rattle.nl_cli.proofs.Sizes.{beyond}
use Rattle.nl_cli.proofs.words.size_among.Goals as goal

pub returns-then-size-gt-MOST_SIZE : goal.returns-then-size-gt-MOST_SIZE
returns-then-size-gt-MOST_SIZE c =
    beyond c.digits.size (drop c.digits.digit-index c.args.word.now) (number_of c.args.word.now) c.if-size-gt-MOST_SIZE.true c.digits.invariant.2
