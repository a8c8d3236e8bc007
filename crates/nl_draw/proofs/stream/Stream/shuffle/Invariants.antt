use Rattle.std.proofs.Common.{◌≡◌, ◌-◌}
use Rattle.nl_draw.specs.Stream.{shuffled, shuffled_from}
use Rattle.nl_draw.proofs.stream.Stream.shuffle.Given as goal

abbrev pub invariant-loop-i : goal.invariant-loop-i
invariant-loop-i g l = shuffled_from (l.i - 1) l.list l.self ≡ shuffled l.fn.list l.fn.self
