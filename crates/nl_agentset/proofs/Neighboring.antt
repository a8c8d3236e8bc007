-- The turtles at the other ends of links, as they are gathered link by link.
use Rattle.std.specs.Prelude.{◌≡◌, ◌↔◌, IsTrue, Ok, not, ℕ, ◌<◌, ◌+◌, ◌==◌, ◌&&◌, ◌||◌, Bool, true, false, if◌then◌else◌, List, [], ◌∷◌, ◌++◌, map, filter, filter_map, find, take, length, Option, Some, None, IsSome, is_some, option_map, All, refl}
use Rattle.std.proofs.Common.{ap, sym, ◌∙◌, subst, get_or, ⊎_elim}
use Rattle.std.specs.List.{list_any, cons_option}
use Rattle.std.specs.List.Sorted.{IsStrictlyIncreasing}
use Rattle.std.proofs.lemmas.Bool.{eqb-true, and_parts, and_right, or_cases}
use Rattle.std.proofs.lemmas.List.{take_more}
use Rattle.std.proofs.lemmas.List.Elements.{All-head, All-tail, filter_map-append}
use Rattle.std.proofs.lemmas.List.Kept.{IsStrictlyIncreasing-filter}
use Rattle.nl_agents_layout.specs.Nouns.{BreedNumber}
use Rattle.nl_agents.specs.World.{Rest, World}
use Rattle.nl_agents.specs.Changes.{is_turtle, turtle_of, link_of}
use Rattle.nl_agents.specs.Members.{all_turtles, links_where, is_listed}
use Rattle.nl_agents.specs.declared.agents.Owner.{Owner}
use Rattle.nl_agents.specs.declared.agents.Owner.TheVariants as owner
use Rattle.nl_value.specs.Plain.{Plain, PlainTruth}
use Rattle.nl_value.specs.declared.sets.AgentKind.TheVariants as kind
use Rattle.nl_agents.specs.Standing.{IsWorld, IsLinkOf}
use Rattle.nl_agents.specs.declared.agents.Turtle as the_turtle
use Rattle.nl_agents.specs.declared.agents.Link as the_link
use Rattle.nl_agents_layout.proofs.Ascending.{has_filter, same_ascending}
use Rattle.nl_agentset_query.specs.declared.words.Side.{Side}
use Rattle.nl_agentset.specs.Links.{other_end_of, is_link_at, is_link_to, links_at, is_neighbor, neighbors_at, neighbor_told, neighbor_tested, least_of, link_told, link_found}
use Rattle.nl_agentset_query.specs.Inputs.{agent_at}
use Rattle.nl_agentset_query.specs.Outcomes.{and_then}
use Rattle.nl_agentset_query.specs.Agents.{link_passes, agent_or_nobody}
use Rattle.nl_agentset.specs.Sets.{has_members}
use Rattle.nl_agentset_query.specs.Orders.{SameNumbers}
use Rattle.nl_agentset.proofs.Found.{any_number, any_link}
use Rattle.nl_agentset.proofs.Linked.{links_lead_to}

-- one more of what a function gives
pub given_more : (h : ℕ → Option ℕ) (xs : List ℕ) (i x : ℕ) (found more : List ℕ) → i < length xs → Some x ≡ h (get_or xs i 0) → found ≡ filter_map h (take i xs) → more ≡ found ++ x ∷ []
    → more ≡ filter_map h (take (i + 1) xs)
given_more h xs i x found more inside given so_far next =
    next ∙ ap (λ l. l ++ x ∷ []) so_far ∙ ap (λ o. filter_map h (take i xs) ++ cons_option o []) given
    ∙ sym (filter_map-append h (take i xs) (get_or xs i 0 ∷ [])) ∙ ap (filter_map h) (sym (take_more xs i 0 inside))

lives_listed : (ts : List the_turtle.Turtle) (x : ℕ) → is_some (find (is_turtle x) ts) ≡ true → is_listed (map (λ (t : the_turtle.Turtle). t.serial) ts) x ≡ true
lives_listed [] x h = h
lives_listed (t ∷ ts) x h = by (t.serial == x) h (lives_listed ts x)
  where
    by : (b : Bool) → is_some (if b then Some t else find (is_turtle x) ts) ≡ true → (is_some (find (is_turtle x) ts) ≡ true → is_listed (map (λ (y : the_turtle.Turtle). y.serial) ts) x ≡ true)
        → (b || is_listed (map (λ (y : the_turtle.Turtle). y.serial) ts) x) ≡ true
    by true here later = refl
    by false here later = later here

module _ (w : World) (side : Side) (breed : Option BreedNumber) (turtle : ℕ) where
  abbrev pub end_of : ℕ → Option ℕ
  end_of z = option_map (other_end_of turtle) (link_of z w.rest)

  abbrev leads : ℕ → ℕ → Bool
  leads x z = link_passes (λ l. other_end_of turtle l == x) (link_of z w.rest)

  ends_listed : (zs : List ℕ) (x : ℕ) → is_listed (filter_map end_of zs) x ≡ list_any (leads x) zs
  ends_listed [] x = refl
  ends_listed (z ∷ zs) x = by (link_of z w.rest) (ends_listed zs x)
    where
      by : (o : Option the_link.Link) → is_listed (filter_map end_of zs) x ≡ list_any (leads x) zs
          → is_listed (cons_option (option_map (other_end_of turtle) o) (filter_map end_of zs)) x ≡ (link_passes (λ l. other_end_of turtle l == x) o || list_any (leads x) zs)
      by None later = later
      by (Some l) later = ap (λ b. (other_end_of turtle l == x) || b) later

  ends_are : (x : ℕ) → IsWorld w → is_listed (filter_map end_of (links_at w.rest side breed turtle)) x ≡ is_neighbor w.rest side breed turtle x
  ends_are x world =
      ends_listed (links_at w.rest side breed turtle) x ∙ sym (any_number (leads x) (links_at w.rest side breed turtle))
      ∙ ap has_members (links_lead_to w side breed turtle x world) ∙ any_link (is_link_to side breed turtle x) w.rest.links

  end_by : (l : the_link.Link) (x : ℕ) (b : Bool) → IsLinkOf w.rest l → (if b then l.end2 else l.end1) ≡ x → IsSome (turtle_of x w.rest)
  end_by l x true link is = subst (λ y. IsSome (turtle_of y w.rest)) is link.second
  end_by l x false link is = subst (λ y. IsSome (turtle_of y w.rest)) is link.first

  end_lives : (ls : List the_link.Link) (x : ℕ) → All (IsLinkOf w.rest) ls → list_any (is_link_to side breed turtle x) ls ≡ true → IsSome (turtle_of x w.rest)
  end_lives [] x all h = cc
  end_lives (l ∷ ls) x all h =
      ⊎_elim
      (λ here.
      let parts = and_parts (is_link_at side breed turtle l) (other_end_of turtle l == x) here in
      end_by l x (l.end1 == turtle) (All-head (IsLinkOf w.rest) l ls all) (eqb-true (other_end_of turtle l) x parts.1))
      (λ later. end_lives ls x (All-tail (IsLinkOf w.rest) l ls all) later)
      (or_cases (is_link_to side breed turtle x l) (list_any (is_link_to side breed turtle x) ls) h)

  implied : (a b : Bool) → (b ≡ true → a ≡ true) → b ≡ (a && b)
  implied a true h = sym (ap (λ x. x && true) (h refl))
  implied a false h = sym (and_right a false refl)

  pub neighbors_are : (ends all : List ℕ) → IsWorld w → ends ≡ filter_map end_of (links_at w.rest side breed turtle) → SameNumbers ends all → IsStrictlyIncreasing all
      → all ≡ neighbors_at w.rest side breed turtle
  neighbors_are ends all world are same up =
      let p = is_neighbor w.rest side breed turtle in
      same_ascending all (filter p (all_turtles w.rest)) up (IsStrictlyIncreasing-filter p (all_turtles w.rest) world.agents.turtles_ascend)
      (λ x.
      same x ∙ ap (λ l. is_listed l x) are ∙ ends_are x world
      ∙ implied (is_listed (all_turtles w.rest) x) (p x) (λ h. lives_listed w.rest.turtles x (end_lives w.rest.links x world.agents.links h))
      ∙ sym (has_filter p (all_turtles w.rest) x))

-- ---- whether a link leads to a turtle, and which one is the least

some_there : (links : List ℕ) (b : Bool) → (IsTrue b ↔ (links ≡ [])) → not b ≡ has_members links
some_there [] true is = refl
some_there [] false is = absurd (let wrong = is.1 refl in cc)
some_there (x ∷ xs) true is = absurd (let wrong = is.0 refl in cc)
some_there (x ∷ xs) false is = refl

pub neighbor_is : (r : Rest) (side : Side) (breed : Option BreedNumber) (caller agent : Owner) (turtle other : ℕ) (inputs : List Plain) (links : List ℕ) (b : Bool)
    → caller ≡ owner.Turtle turtle → Ok agent ≡ agent_at r inputs 0 → agent ≡ owner.Turtle other → links ≡ links_where (is_link_to side breed turtle other) r → (IsTrue b ↔ (links ≡ []))
    → neighbor_tested r side breed caller inputs ≡ Ok (PlainTruth (not b))
neighbor_is r side breed caller agent turtle other inputs links b who found is are empty =
    ap (λ o. neighbor_tested r side breed o inputs) who
    ∙ ap (λ o. and_then o (λ a. Ok (PlainTruth (neighbor_told r side breed turtle a)))) (sym found)
    ∙ ap (λ a. Ok (PlainTruth (neighbor_told r side breed turtle a))) is
    ∙ ap (λ t. Ok (PlainTruth t)) (sym (some_there links b empty ∙ ap has_members are ∙ any_link (is_link_to side breed turtle other) r.links))

pub link_is : (r : Rest) (side : Side) (breed : Option BreedNumber) (caller agent : Owner) (turtle other : ℕ) (inputs : List Plain) (links : List ℕ) (least : Option ℕ) (value : Plain)
    → caller ≡ owner.Turtle turtle → Ok agent ≡ agent_at r inputs 0 → agent ≡ owner.Turtle other → links ≡ links_where (is_link_to side breed turtle other) r → least ≡ least_of r links
    → value ≡ agent_or_nobody kind.Link least → link_found r side breed caller inputs ≡ Ok value
link_is r side breed caller agent turtle other inputs links least value who found is are told named =
    ap (λ o. link_found r side breed o inputs) who
    ∙ ap (λ o. and_then o (λ a. Ok (agent_or_nobody kind.Link (link_told r side breed turtle a)))) (sym found)
    ∙ ap (λ a. Ok (agent_or_nobody kind.Link (link_told r side breed turtle a))) is
    ∙ ap Ok (sym (named ∙ ap (agent_or_nobody kind.Link) (told ∙ ap (least_of r) are)))
