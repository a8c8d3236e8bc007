use Rattle.std.proofs.Common.{◌≡◌, ◌+◌, ◌<◌, ◌≤◌, ◌^◌, length}
use Rattle.std.specs.Fmt.{decimal}
use Rattle.nl_table.specs.Reading.{StandsBefore}
use Rattle.nl_table.specs.inner.Passed.{Passed}
use Rattle.nl_table.proofs.reach.reach_of.Given as goal

abbrev pub invariant-pieces : goal.invariant-pieces
invariant-pieces l =
    StandsBefore l.reader l.left
    × Passed l.columns l.runs l.rest l.left l.ended l.begin l.behind
    × (l.ended + 1 < 2 ^ 64 → l.number ≡ decimal (l.ended + 1))
    × (l.ended ≤ l.runs)

abbrev pub decreases-pieces : goal.decreases-pieces
decreases-pieces l = length l.left
