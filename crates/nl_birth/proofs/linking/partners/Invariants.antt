use Rattle.std.proofs.Common.{◌≡◌, take}
use Rattle.std.specs.Option.{option_and_then}
use Rattle.nl_agents.specs.Changes.{link_of}
use Rattle.nl_birth.specs.inner.Partners.{partner, collected}
use Rattle.nl_birth.proofs.linking.partners.Given as goal

abbrev pub invariant-loop-link : goal.invariant-loop-link
invariant-loop-link g l =
    l.others.items ≡ collected (λ s. option_and_then (partner l.fn.way l.breed l.caller) (link_of s (g.S.Store.world l.store).rest)) (take l.link-index l.link-items)
