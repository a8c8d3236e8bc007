use Rattle.std.proofs.Common.{◌≡◌, sym, subst, ◌∙◌}
use Rattle.nl_value.specs.declared.sets.AgentKind.TheVariants as the_kind
use Rattle.nl_exec_acts.specs.Acts.{is_agent_in}
use Rattle.nl_exec_acts.proofs.Membership.{all_turtles_listed, bred_turtles_listed}
use Rattle.nl_exec_acts.proofs.values.has_turtle.Goals as goal

pub returns-in-Turtles : goal.returns-in-Turtles
returns-in-Turtles g c =
    let r = (g.S.Store.world c.args.store.now).rest in
    subst (λ s. c.turtle_lives.result ≡ is_agent_in r the_kind.Turtle c.args.turtle s) (sym c.in-Turtles.is)
    (c.turtle_lives.ensures ∙ sym (all_turtles_listed r c.args.turtle))

pub returns-in-Breed : goal.returns-in-Breed
returns-in-Breed g c =
    let w = g.S.Store.world c.args.store.now in
    subst (λ s. c.is_turtle_of.result ≡ is_agent_in w.rest the_kind.Turtle c.args.turtle s) (sym c.in-Breed.is)
    (c.is_turtle_of.ensures ∙ sym (bred_turtles_listed w c.in-Breed.breed c.args.turtle c.shape-stands.ensures.stands))
