-- A link that joins two turtles is found among the serials of all links.
use Rattle.std.specs.Prelude.{◌≡◌, ℕ, ◌||◌, Bool, true, false, if◌then◌else◌, List, [], ◌∷◌, map, filter, refl}
use Rattle.std.proofs.Common.{ap, sym, ◌∙◌}
use Rattle.std.specs.List.{list_any}
use Rattle.nl_agents_layout.specs.Nouns.{BreedNumber}
use Rattle.nl_agents.specs.World.{World}
use Rattle.nl_agents.specs.Changes.{joins, link_of}
use Rattle.nl_agents.specs.Members.{all_links}
use Rattle.nl_agents.specs.Standing.{IsWorld}
use Rattle.nl_agents.specs.declared.agents.Link.{Link}
use Rattle.nl_agents.proofs.LivingMembers.{found_passing}
use Rattle.trial_stores.specs.Trials.{joined}

abbrev some : {X : Type 0} → List X → Bool
some [] = false
some (x ∷ xs) = true

any_some : {X : Type 0} (p : X → Bool) (xs : List X) → list_any p xs ≡ some (filter p xs)
any_some p [] = refl
any_some p (x ∷ xs) = by (p x) (any_some p xs)
  where
    by : (b : Bool) → list_any p xs ≡ some (filter p xs) → (b || list_any p xs) ≡ some (if b then x ∷ filter p xs else filter p xs)
    by true later = refl
    by false later = later

some_map : {X Y : Type 0} (f : X → Y) (xs : List X) → some (map f xs) ≡ some xs
some_map f [] = refl
some_map f (x ∷ xs) = refl

pub any_joined : (w : World) (breed : BreedNumber) (directed : Bool) (end1 end2 : ℕ) → IsWorld w
    → list_any (λ z. joined breed directed end1 end2 (link_of z w.rest)) (all_links w.rest) ≡ list_any (joins breed directed end1 end2) w.rest.links
any_joined w breed directed end1 end2 world =
    let test = joins breed directed end1 end2 in
    any_some (λ z. joined breed directed end1 end2 (link_of z w.rest)) (all_links w.rest)
    ∙ ap some (found_passing (λ (l : Link). l.serial) test w.rest.links world.agents.links_ascend)
    ∙ some_map (λ (l : Link). l.serial) (filter test w.rest.links)
    ∙ sym (any_some test w.rest.links)
