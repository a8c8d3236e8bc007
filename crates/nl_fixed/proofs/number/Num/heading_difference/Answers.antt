use Rattle.std.proofs.Common.{◌∙◌, ap, Ok}
use Rattle.std.proofs.lemmas.Result.{err_from_is_err_and}
use Rattle.nl_fixed.specs.Numbers.{and_next}
use Rattle.nl_fixed.specs.Headings.{within_half_turn, heading_difference_of}
use Rattle.nl_fixed.proofs.number.Num.heading_difference.Goals as goal

pub returns-in_err-sub-clause-value : goal.returns-in_err-sub-clause-value
unfolding heading_difference_of
returns-in_err-sub-clause-value c =
    let p = err_from_is_err_and c.from_residual.result c.from_residual.ensures.1 in
    rw (p.1, p.2) (ap (λ r. and_next r (λ angle. Ok (within_half_turn angle))) c.in_err-sub.ensures.value)

pub returns-clause-value : goal.returns-clause-value
unfolding heading_difference_of
returns-clause-value c =
    ap Ok c.within_half_turn.ensures.value ∙ ap (λ r. and_next r (λ angle. Ok (within_half_turn angle))) c.in_ok-sub.ensures.value
