use Rattle.std.specs.Prelude.{ℕ, ◌<◌, ◌++◌, ◌∷◌, []}
use Rattle.std.proofs.Common.{ap, subst, sym, ◌∙◌}
use Rattle.nl_agents.specs.Standing.{IsWorld}
use Rattle.nl_agents.specs.Nouns.{Vars}
use Rattle.nl_agents.specs.Changes.{birth_vars}
use Rattle.nl_agents.specs.declared.agents.Turtle.{Turtle}
use Rattle.nl_agents.proofs.Worlds.{born_is_world}
use Rattle.nl_plain.specs.Held.{world_in}
use Rattle.nl_plain.proofs.Holds.{with_births, room_for_turtles, parent_found}
use Rattle.nl_plain.proofs.plain.PlainStore.bear.Goals as goal

pub invariant_of-self-2 : goal.invariant_of-self-2
invariant_of-self-2 c =
    let w = world_in c.args.self.now in
    let turtle : Vars → Turtle = λ vars. record { serial = w.rest.turtles_given; breed = c.args.breed; at = c.args.at; vars = vars } in
    let room = room_for_turtles w (subst (λ (n : ℕ). n < 200_000) c.turtle_count.ensures c.if-turtle_count-ge-MOST_TURTLES.false) c.if-self-ge-MOST_SERIALS.false in
    let kept = c.in_ok-vars.ensures ∙ ap (birth_vars w.rest.layout c.args.breed) (parent_found c.args.parent w c.deref.result.now c.deref.ensures.value) in
    record {
      stands = subst IsWorld
          (sym (ap (with_births w) (c.in_ok-push.ensures.items ∙ ap (λ (vars : Vars). w.rest.turtles ++ turtle vars ∷ []) kept)))
          (born_is_world c.args.breed c.args.at c.args.parent w c.args.self.now.stands c.requires.breed c.requires.at room);
    }
