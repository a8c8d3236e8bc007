-- The agents so far.
use Rattle.std.proofs.Common.{◌≡◌, take}
use Rattle.nl_plain.proofs.copying.copy_links.Given as goal

abbrev pub invariant-loop-link : goal.invariant-loop-link
invariant-loop-link l = l.copied.items ≡ take l.link-index l.links
