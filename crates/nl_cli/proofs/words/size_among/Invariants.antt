use Rattle.std.proofs.Common.{◌≡◌, ◌≤◌, drop}
use Rattle.nl_experiment.specs.Numbers.{AreDigits, number_behind, number_of}
use Rattle.nl_cli.proofs.words.size_among.Given as goal

-- the digits that are left write the number behind that so far
abbrev pub invariant-digits : goal.invariant-digits
invariant-digits l =
    AreDigits (drop l.digit-index l.word)
    × (l.size ≤ 10009)
    × (number_behind l.size (drop l.digit-index l.word) ≡ number_of l.word)
