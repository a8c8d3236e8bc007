use Rattle.std.proofs.Common.{ap, ◌∙◌, arith}
use Rattle.std.specs.Option.{option_and_then}
use Rattle.nl_experiment_keys.specs.Literals.{fit, literal_from, taken}
use Rattle.nl_experiment_keys.proofs.Depths.{too_deep}
use Rattle.nl_experiment_keys.proofs.literals.take.Goals as goal

pub returns-then-len-ge-MOST_OPEN : goal.returns-then-len-ge-MOST_OPEN
returns-then-len-ge-MOST_OPEN c = λ tokens.
    let text = c.args.text.now in
    ap (λ l. option_and_then fit (taken text c.args.token.now l c.args.nested.now tokens (λ now. literal_from text tokens now))) c.in-Open.is
    ∙ too_deep text tokens c.args.nested.now (omega (arith, c.len.ensures, c.if-len-ge-MOST_OPEN.true))
