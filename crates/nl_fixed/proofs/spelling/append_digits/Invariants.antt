use Rattle.std.proofs.Common.{◌≡◌, ◌+◌, ◌-◌, ◌*◌, ◌^◌, ◌≤◌, true, length, drop}
use Rattle.std.specs.Str.Parse.{digits_value_after}
use Rattle.nl_fixed.specs.Spelling.{all_digits}
use Rattle.nl_fixed.proofs.spelling.append_digits.Given as goal

abbrev pub invariant-loop-byte : goal.invariant-loop-byte
invariant-loop-byte l = record {
  digits : all_digits (drop l.byte-index l.digits) ≡ true;
  value : digits_value_after 10 l.appended (drop l.byte-index l.digits) ≡ digits_value_after 10 l.fn.number l.digits;
  room : (l.appended + 1) * 10 ^ (length l.digits - l.byte-index) ≤ (l.fn.number + 1) * 10 ^ length l.digits;
}
