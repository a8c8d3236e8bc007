-- Those so far.
use Rattle.std.proofs.Common.{◌≡◌, take, filter}
use Rattle.nl_agents.specs.Members.{is_listed}
use Rattle.nl_exec_walks.proofs.several.members_among.Given as goal

abbrev pub invariant-loop-member : goal.invariant-loop-member
invariant-loop-member l = l.kept.items ≡ filter (is_listed l.list) (take l.member-index l.members)
