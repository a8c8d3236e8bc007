use Rattle.std.proofs.Common.{◌≡◌, ◌≤◌, ◌+◌, take}
use Rattle.nl_scan.specs.Place.{line_after, column_after}
use Rattle.nl_scan.proofs.place.line_column.Given as goal

-- line and column are those of the bytes so far
abbrev pub invariant-bytes : goal.invariant-bytes
invariant-bytes l = (l.line ≡ line_after (take l.byte-index l.before)) × (l.column ≡ column_after (take l.byte-index l.before))
    × (l.line ≤ l.byte-index + 1) × (l.column ≤ l.byte-index + 1)
