use Rattle.std.proofs.Common.{◌≡◌, to_z, of_z, FitsSigned, ◌∙◌, ap, arith}
use Rattle.std.specs.Int.{w64, w128}
use Rattle.std.proofs.lemmas.Int.{ints}
use Rattle.nl_fixed.specs.Numbers.{as_number}
use Rattle.nl_fixed.proofs.PlacesLemmas.{overflows_exactly}
use Rattle.nl_fixed.proofs.WholeNumbers.{wide_overflows, wide_overflows_exactly}
use Rattle.nl_fixed.proofs.number.Num.from_integer.Goals as goal

pub returns-in-Ok-clause-value : goal.returns-in-Ok-clause-value
returns-in-Ok-clause-value c = c.number_of.ensures ∙ ap as_number (omega (arith, ints, c.in-Ok.ensures.1))

pub returns-in-Ok-clause-overflow : goal.returns-in-Ok-clause-overflow
returns-in-Ok-clause-overflow c = rw (returns-in-Ok-clause-value c) (overflows_exactly _)

is_wide : (c : goal.In-Err) → FitsSigned w64 c.args.n → ⊥
is_wide c fits =
    let shown : to_z w128 (of_z w128 c.args.n) ≡ c.args.n = omega (arith, ints) in
    c.in-Err.ensures (rw shown fits)

pub returns-in-Err-clause-value : goal.returns-in-Err-clause-value
returns-in-Err-clause-value c = wide_overflows c.args.n (is_wide c)

pub returns-in-Err-clause-overflow : goal.returns-in-Err-clause-overflow
returns-in-Err-clause-overflow c = wide_overflows_exactly c.args.n (is_wide c)
