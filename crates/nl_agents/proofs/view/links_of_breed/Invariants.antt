use Rattle.std.proofs.Common.{◌≡◌, take, filter}
use Rattle.nl_agents.specs.Changes.{link_of}
use Rattle.nl_agents.specs.inner.Views.{link_is_of}
use Rattle.nl_agents.proofs.view.links_of_breed.Given as goal

abbrev pub invariant-loop-number : goal.invariant-loop-number
invariant-loop-number g l = l.bred.items ≡ filter (λ link. link_is_of l.breed (link_of link (g.S.Store.world l.store).rest)) (take l.number-index l.numbers)
