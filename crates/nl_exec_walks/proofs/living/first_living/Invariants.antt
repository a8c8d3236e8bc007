-- No member before this place lives.
use Rattle.std.proofs.Common.{◌≡◌, ◌+◌, ◌-◌, drop, length, option_map}
use Rattle.nl_exec_walks.specs.Turning.{first_of}
use Rattle.nl_exec_walks.proofs.living.first_living.Given as goal

abbrev pub invariant-members : goal.invariant-members
invariant-members g l =
    option_map (λ i. l.next + i) (first_of (g.S.Store.world l.store).rest l.which (drop l.next l.members))
    ≡ option_map (λ i. l.at + i) (first_of (g.S.Store.world l.store).rest l.which (drop l.at l.members))

abbrev pub decreases-members : goal.decreases-members
decreases-members g l = length l.members - l.next
