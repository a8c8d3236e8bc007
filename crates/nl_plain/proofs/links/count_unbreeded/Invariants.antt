-- How many are so far.
use Rattle.std.proofs.Common.{◌≡◌, ◌≤◌, take}
use Rattle.nl_plain.specs.Lists.{unbreeded}
use Rattle.nl_plain.proofs.links.count_unbreeded.Given as goal

abbrev pub invariant-loop-link : goal.invariant-loop-link
invariant-loop-link l = (l.count ≡ unbreeded l.directed (take l.link-index l.links)) × (l.count ≤ l.link-index)
