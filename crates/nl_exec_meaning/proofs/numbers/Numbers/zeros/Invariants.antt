-- The numbers so far are zeros.
use Rattle.std.proofs.Common.{◌≡◌, replicate}
use Rattle.nl_exec_meaning.proofs.numbers.Numbers.zeros.Given as goal

abbrev pub invariant-loop : goal.invariant-loop
invariant-loop l = l.numbers ≡ replicate l.counter 0
