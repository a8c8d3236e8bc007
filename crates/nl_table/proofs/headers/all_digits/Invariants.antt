use Rattle.std.proofs.Common.{◌≡◌, map, take}
use Rattle.std.specs.Fmt.{signed_decimal}
use Rattle.nl_table.proofs.headers.all_digits.Given as goal

abbrev pub invariant-loop-bound : goal.invariant-loop-bound
invariant-loop-bound l = l.cells ≡ map signed_decimal (take l.bound-index l.bound-items)
