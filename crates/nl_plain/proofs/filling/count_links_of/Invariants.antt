-- How many are so far.
use Rattle.std.proofs.Common.{◌≡◌, ◌≤◌, length, map, filter, take}
use Rattle.nl_agents.specs.Changes.{has_end}
use Rattle.nl_plain.proofs.filling.count_links_of.Given as goal

abbrev pub invariant-loop-link : goal.invariant-loop-link
invariant-loop-link l =
    (l.count ≡ length (map (λ a. a.serial) (filter (has_end l.turtle) (take l.link-index l.links))))
    × (l.count ≤ l.link-index)
