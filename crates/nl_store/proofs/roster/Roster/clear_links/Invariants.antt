-- Only links are gone.
use Rattle.std.proofs.Common.{◌≡◌, length}
use Rattle.nl_store.proofs.roster.Roster.clear_links.Given as goal

abbrev pub invariant-loop-link : goal.invariant-loop-link
invariant-loop-link l = l.self ≡ record l.initial.self { links = l.self.links }

abbrev pub decreases-loop-link : goal.decreases-loop-link
decreases-loop-link l = length l.self.links
