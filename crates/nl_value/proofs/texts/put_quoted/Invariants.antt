-- The bytes so far are written.
use Rattle.std.proofs.Common.{◌≡◌, ◌≤◌, ◌++◌, length, take}
use Rattle.std.specs.List.{flat_map}
use Rattle.nl_fixed.specs.Quoted.{written_byte}
use Rattle.nl_value.specs.Limits.{most_bytes}
use Rattle.nl_value.proofs.texts.put_quoted.Given as goal

abbrev pub invariant-loop-byte : goal.invariant-loop-byte
invariant-loop-byte l = record {
  written : l.out ≡ l.initial.out ++ flat_map written_byte (take l.byte-index l.bytes);
  within : length l.initial.out ≤ most_bytes → length l.out ≤ most_bytes;
}
