use Rattle.std.proofs.Common.{◌≡◌, ◌==◌, ℕ, false, Option, Some, None, option_map, ap, refl, ◌∙◌}
use Rattle.nl_agents.specs.World.{World}
use Rattle.nl_agents.specs.Changes.{link_of}
use Rattle.nl_agents.specs.Standing.{IsWorld, IsLinkOf}
use Rattle.nl_agents.specs.declared.agents.Link.{Link}
use Rattle.nl_agents.proofs.LivingMembers.{found_so}
use Rattle.nl_agentset.proofs.measures.of_link.Goals as goal

ends_apart : (w : World) (link a b : ℕ) → IsWorld w → option_map (λ (l : Link). l.end1) (link_of link w.rest) ≡ Some a → option_map (λ (l : Link). l.end2) (link_of link w.rest) ≡ Some b → (a == b) ≡ false
ends_apart w link a b world first second = by (link_of link w.rest) refl first second
  where
    by : (o : Option Link) → link_of link w.rest ≡ o → option_map (λ (l : Link). l.end1) o ≡ Some a → option_map (λ (l : Link). l.end2) o ≡ Some b → (a == b) ≡ false
    by None is one two = cc
    by (Some l) is one two =
        let stands = (found_so (λ (x : Link). x.serial) (IsLinkOf w.rest) w.rest.links link l world.agents.links is).1 in
        let here : a ≡ l.end1 = cc in
        let there : b ≡ l.end2 = cc in
        ap (λ x. x == b) here ∙ ap (λ x. l.end1 == x) there ∙ stands.apart

pub both_of-requires : goal.both_of-requires
both_of-requires g c =
    ends_apart (g.S.Store.world c.args.store.now) c.args.link c.ends-end1.result.0 c.ends-end1.result.1 c.shape-shape.ensures.stands c.ends-end1.ensures.first c.ends-end1.ensures.second
