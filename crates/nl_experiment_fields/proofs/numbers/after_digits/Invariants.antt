use Rattle.std.proofs.Common.{◌≡◌, length}
use Rattle.nl_words.specs.Table.{after_digits}
use Rattle.nl_experiment_fields.proofs.numbers.after_digits.Given as goal

-- what is left has the same behind its digits
abbrev pub invariant-digits : goal.invariant-digits
invariant-digits l = after_digits l.left ≡ after_digits l.fn.text

abbrev pub decreases-digits : goal.decreases-digits
decreases-digits l = length l.left
