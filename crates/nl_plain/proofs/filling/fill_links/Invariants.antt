-- The serials so far.
use Rattle.std.proofs.Common.{◌≡◌, map, take}
use Rattle.nl_plain.proofs.filling.fill_links.Given as goal

abbrev pub invariant-loop-link : goal.invariant-loop-link
invariant-loop-link l = l.into ≡ map (λ a. a.serial) (take l.link-index l.links)
