use Rattle.std.proofs.Common.{int_rem, FitsSigned, ◌∙◌, ap, arith, ◌≢◌, pos}
use Rattle.std.specs.Int.{w64, w128}
use Rattle.std.proofs.lemmas.Int.{ints, to_z-of_z, rem_is}
use Rattle.nl_fixed.specs.Numbers.{as_number}
use Rattle.nl_fixed.proofs.NumberLawProofs.{remainder_has_answer, no_fault}
use Rattle.nl_fixed.proofs.Signs.{remainder_by_zero, remainder_by_other}
use Rattle.nl_fixed.proofs.number.Num.remainder.Goals as goal

pub returns-then-other-eq0-clause-value : goal.returns-then-other-eq0-clause-value
returns-then-other-eq0-clause-value c = remainder_by_zero _ _ (omega (arith, ints))

pub returns-clause-value : goal.returns-clause-value
returns-clause-value c =
    let count : FitsSigned w64 c.self.inside.count = omega (arith, ints) in
    let step : FitsSigned w64 c.other.inside.count = omega (arith, ints) in
    let left = c.from.ensures ∙ rem_is w64 c.self.inside.count c.other.inside.count count step ∙ ap (λ x. int_rem x c.other.inside.count) c.self.view_is ∙ ap (int_rem c.args.self) c.other.view_is in
    c.number_of.ensures
    ∙ ap as_number (to_z-of_z w128 _ (record { sfits = c.from.type_inv }) ∙ left)
    ∙ remainder_by_other c.args.self c.args.other (λ e. omega (arith, ints))

pub returns-clause-zero_divide : goal.returns-clause-zero_divide
returns-clause-zero_divide c =
    let some : c.args.other ≢ pos 0 = λ e. omega (arith, ints) in
    let answer = remainder_has_answer c.args.self c.args.other (omega (arith, ints)) some in
    no_fault _ _ (rw (returns-clause-value c) answer) some
