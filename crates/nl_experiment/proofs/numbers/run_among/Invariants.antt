use Rattle.std.proofs.Common.{◌≡◌, ◌≤◌, drop}
use Rattle.nl_experiment.specs.Numbers.{AreDigits, number_behind, number_of}
use Rattle.nl_experiment.proofs.numbers.run_among.Given as goal

-- the digits that are left write the number behind that so far
abbrev pub invariant-digits : goal.invariant-digits
invariant-digits l =
    AreDigits (drop l.digit-index l.word)
    × (l.number ≤ 1000009)
    × (number_behind l.number (drop l.digit-index l.word) ≡ number_of l.word)
