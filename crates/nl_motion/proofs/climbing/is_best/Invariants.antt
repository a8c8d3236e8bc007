use Rattle.std.proofs.Common.{◌≡◌, take, false}
use Rattle.std.specs.List.{list_any}
use Rattle.nl_motion.specs.Climbing.{surpasses}
use Rattle.nl_motion.proofs.climbing.is_best.Given as goal

abbrev pub invariant-loop-other : goal.invariant-loop-other
invariant-loop-other l = list_any (λ other. surpasses l.up other l.number) (take l.other-index l.others) ≡ false
