use Rattle.std.specs.Prelude.{ℕ, ◌<◌, ◌++◌, ◌∷◌, []}
use Rattle.std.proofs.Common.{ap, subst, sym, ◌∙◌}
use Rattle.nl_agents.specs.Standing.{IsWorld}
use Rattle.nl_agents.specs.Nouns.{Vars}
use Rattle.nl_agents.specs.declared.agents.Link.{Link}
use Rattle.nl_agents.proofs.Worlds.{tied_is_world}
use Rattle.nl_plain.specs.Held.{world_in}
use Rattle.nl_plain.proofs.Holds.{with_ties, room_for_links}
use Rattle.nl_plain.proofs.plain.PlainStore.tie.Goals as goal

pub invariant_of-self-2 : goal.invariant_of-self-2
invariant_of-self-2 c =
    let w = world_in c.args.self.now in
    let link : Vars → Link = λ vars. record { serial = w.rest.links_given; breed = c.args.breed; directed = c.args.directed; end1 = c.args.end1; end2 = c.args.end2; vars = vars } in
    let room = room_for_links w (subst (λ (n : ℕ). n < 400_000) c.link_count.ensures c.if-link_count-ge-MOST_LINKS.false) c.if-self-ge-MOST_SERIALS.false in
    record {
      stands = subst IsWorld
          (sym (ap (with_ties w) (c.in_ok-push.ensures.ok ∙ ap (λ (vars : Vars). w.rest.links ++ link vars ∷ []) c.in_ok-vars.ensures)))
          (tied_is_world c.args.breed c.args.directed c.args.end1 c.args.end2 w c.args.self.now.stands c.requires.breed c.requires.first c.requires.second c.requires.apart c.requires.none room);
    }
