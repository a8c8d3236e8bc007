-- The members so far.
use Rattle.std.proofs.Common.{◌≡◌, take, map}
use Rattle.nl_exec_walks.proofs.several.members_in.Given as goal

abbrev pub invariant-loop-rank : goal.invariant-loop-rank
invariant-loop-rank l = l.members.items ≡ map (λ r. r.member) (take l.rank-index l.ranks)
