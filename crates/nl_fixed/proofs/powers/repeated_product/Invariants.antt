use Rattle.std.proofs.Common.{◌≤◌, ◌≡◌, Ok}
use Rattle.nl_fixed.specs.Numbers.{repeated_product}
use Rattle.nl_fixed.proofs.powers.repeated_product.Given as goal

abbrev pub invariant-loop : goal.invariant-loop
invariant-loop l = (l.counter ≤ l.times) × (repeated_product l.factor l.counter ≡ Ok l.power)
