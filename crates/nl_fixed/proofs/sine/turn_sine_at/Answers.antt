use Rattle.std.proofs.Common.{arith}
use Rattle.std.proofs.lemmas.Int.{ints}
use Rattle.nl_fixed.proofs.SineTable.{turn_sine_low, turn_sine_high}
use Rattle.nl_fixed.proofs.sine.turn_sine_at.Goals as goal

pub returns-then-degree-le180-clause-value : goal.returns-then-degree-le180-clause-value
returns-then-degree-le180-clause-value c = omega (arith, ints, turn_sine_low c.args.degree (omega arith))

pub returns-else-degree-le180-clause-value : goal.returns-else-degree-le180-clause-value
returns-else-degree-le180-clause-value c = omega (arith, ints, turn_sine_high c.args.degree (omega arith))
