use Rattle.nl_fixed.proofs.Digits.{all_digits-take}
use Rattle.nl_fixed.proofs.spelling.split_digits.Goals as goal

pub returns-clause-all_are : goal.returns-clause-all_are
returns-clause-all_are c = rw c.split_at.ensures.front (all_digits-take c.leading_digit_count.result c.args.word.now c.leading_digit_count.ensures)
