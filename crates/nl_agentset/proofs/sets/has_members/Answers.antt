use Rattle.std.proofs.Common.{ap, sym, ◌∙◌}
use Rattle.std.specs.List.{list_any}
use Rattle.nl_agents.specs.Changes.{turtle_lives, link_lives}
use Rattle.nl_agents.specs.Members.{members_of}
use Rattle.nl_agents.proofs.LivingMembers.{listed_turtles, listed_links}
use Rattle.nl_agentset.specs.Sets.{has_members}
use Rattle.nl_agentset.proofs.Found.{any_number}
use Rattle.nl_agentset.proofs.sets.has_members.Goals as goal

pub returns-in-SomeTurtles-clause-some : goal.returns-in-SomeTurtles-clause-some
returns-in-SomeTurtles-clause-some g c =
    let w = g.S.Store.world c.args.store.now in
    let numbers = c.in-SomeTurtles.numbers in
    c.has_living_turtle.ensures ∙ ap (list_any (turtle_lives w.rest)) c.as_slice.ensures.value
    ∙ sym (any_number (turtle_lives w.rest) numbers)
    ∙ ap has_members (listed_turtles w numbers c.shape-stands.ensures.stands c.as_slice.ensures.ascending)
    ∙ ap (λ set. has_members (members_of w.rest set)) (sym c.in-SomeTurtles.is)

pub returns-in-SomeLinks-clause-some : goal.returns-in-SomeLinks-clause-some
returns-in-SomeLinks-clause-some g c =
    let w = g.S.Store.world c.args.store.now in
    let numbers = c.in-SomeLinks.numbers in
    c.has_living_link.ensures ∙ ap (list_any (link_lives w.rest)) c.as_slice-in-SomeLinks.ensures.value
    ∙ sym (any_number (link_lives w.rest) numbers)
    ∙ ap has_members (listed_links w numbers c.shape-stands.ensures.stands c.as_slice-in-SomeLinks.ensures.ascending)
    ∙ ap (λ set. has_members (members_of w.rest set)) (sym c.in-SomeLinks.is)
