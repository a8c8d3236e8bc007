use Rattle.std.proofs.Common.{take, All}
use Rattle.nl_agents.specs.Changes.{TurtleLives}
use Rattle.trial_birth.proofs.making.all_live.Given as goal

abbrev pub invariant-loop-target : goal.invariant-loop-target
invariant-loop-target g l = All (λ target. TurtleLives target (g.S.Store.world l.store)) (take l.target-index l.numbers)
