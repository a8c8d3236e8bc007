-- Who is in a union is an agent of its kind that lives.
use Rattle.std.specs.Prelude.{◌≡◌, ℕ, ◌==◌, ◌&&◌, ◌||◌, Bool, true, false, if◌then◌else◌, List, [], ◌∷◌, ◌++◌, map, filter, find, Some, is_some, Ok, Err, refl}
use Rattle.std.proofs.Common.{ap, sym, ◌∙◌, ⊎_elim}
use Rattle.std.specs.List.Sorted.{IsStrictlyIncreasing}
use Rattle.std.proofs.lemmas.Bool.{eqb-true, and_parts, and_right, or_cases}
use Rattle.std.proofs.lemmas.List.Folds.{list_any-append}
use Rattle.std.proofs.lemmas.List.Kept.{IsStrictlyIncreasing-filter}
use Rattle.nl_value.specs.Living.{same_kind}
use Rattle.nl_value.specs.Plain.{Plain, Plains, PlainNumber, PlainTruth, PlainWords, PlainItems, PlainTurtle, PlainPatch, PlainLink, PlainNobody, PlainSet, no_items, item_then}
use Rattle.nl_value.specs.Sets.{set_kind}
use Rattle.nl_value.specs.Fit.{values_fit}
use Rattle.nl_value.specs.declared.sets.AgentKind.{AgentKind}
use Rattle.nl_value.specs.declared.sets.AgentKind.TheVariants as kind
use Rattle.nl_value.specs.declared.sets.AgentSet.{AgentSet}
use Rattle.nl_value.specs.declared.sets.AgentSet.TheVariants as the_set
use Rattle.nl_grid.specs.Geometry.{patches_of, all_patches}
use Rattle.nl_agents.specs.World.{World}
use Rattle.nl_agents.specs.Changes.{turtle_lives, link_lives, turtle_of, link_of}
use Rattle.nl_agents.specs.Members.{members_of, turtles_where, links_where, is_listed, all_turtles, all_links, is_of_breed, is_link_of_breed}
use Rattle.nl_agents.specs.Names.{patch_fits, set_fits}
use Rattle.nl_agents.specs.Standing.{IsWorld, fits_rest}
use Rattle.nl_agents.specs.declared.agents.Turtle.{Turtle}
use Rattle.nl_agents.specs.declared.agents.Link.{Link}
use Rattle.nl_agents.proofs.Ascending.{has_filter, has_range, same_ascending}
use Rattle.nl_agents.proofs.LivingMembers.{found_passing, members_ascend}
use Rattle.nl_agentset_query.specs.Outcomes.{QueryOutcome, and_then}
use Rattle.nl_agentset_query.specs.declared.fail.QueryFail.TheVariants.{WrongType}
use Rattle.nl_agentset_query.specs.Agents.{turtle_passes, link_passes, listed_value}
use Rattle.nl_agentset_query.specs.Unions.{one_united, united, all_united, all_of, union_of}
use Rattle.nl_agentset_query.specs.Orders.{SameNumbers}
use Rattle.nl_agentset_query.proofs.Uniting.{behind}

-- ---- agents of one kind, by their serials

module _ {X : Type 0} (serial : X → ℕ) where
  lives_listed : (xs : List X) (z : ℕ) → is_some (find (λ x. serial x == z) xs) ≡ true → is_listed (map serial xs) z ≡ true
  lives_listed [] z h = h
  lives_listed (x ∷ xs) z h = by (serial x == z) h (lives_listed xs z)
    where
      by : (b : Bool) → is_some (if b then Some x else find (λ y. serial y == z) xs) ≡ true → (is_some (find (λ y. serial y == z) xs) ≡ true → is_listed (map serial xs) z ≡ true) → (b || is_listed (map serial xs) z) ≡ true
      by true here later = refl
      by false here later = later here

module _ (w : World) (world : IsWorld w) where
  turtle_in : (test : Turtle → Bool) (z : ℕ) → is_listed (turtles_where test w.rest) z ≡ true → is_listed (all_turtles w.rest) z ≡ true
  turtle_in test z h =
      let passes : ℕ → Bool = λ y. turtle_passes test (turtle_of y w.rest) in
      let found = found_passing (λ (t : Turtle). t.serial) test w.rest.turtles world.agents.turtles_ascend in
      (and_parts (is_listed (all_turtles w.rest) z) (passes z) (sym (has_filter passes (all_turtles w.rest) z) ∙ ap (λ l. is_listed l z) found ∙ h)).0

  link_in : (test : Link → Bool) (z : ℕ) → is_listed (links_where test w.rest) z ≡ true → is_listed (all_links w.rest) z ≡ true
  link_in test z h =
      let passes : ℕ → Bool = λ y. link_passes test (link_of y w.rest) in
      let found = found_passing (λ (l : Link). l.serial) test w.rest.links world.agents.links_ascend in
      (and_parts (is_listed (all_links w.rest) z) (passes z) (sym (has_filter passes (all_links w.rest) z) ∙ ap (λ l. is_listed l z) found ∙ h)).0

  set_in : (set : AgentSet) (z : ℕ) → is_listed (members_of w.rest set) z ≡ true → is_listed (members_of w.rest (all_of (set_kind set))) z ≡ true
  set_in the_set.Turtles z h = h
  set_in (the_set.Breed breed) z h = turtle_in (is_of_breed breed) z h
  set_in the_set.Patches z h = h
  set_in the_set.Links z h = h
  set_in (the_set.LinkBreed breed) z h = link_in (is_link_of_breed breed) z h
  set_in (the_set.SomeTurtles numbers) z h = turtle_in (λ t. is_listed numbers t.serial) z h
  set_in (the_set.SomePatches numbers) z h =
      (and_parts (is_listed (all_patches w.rest.shape) z) (is_listed numbers z) (sym (has_filter (is_listed numbers) (all_patches w.rest.shape) z) ∙ h)).0
  set_in (the_set.SomeLinks numbers) z h = link_in (λ l. is_listed numbers l.serial) z h

  same_kinds : (a b : AgentKind) → same_kind a b ≡ true → a ≡ b
  same_kinds kind.Turtle kind.Turtle is = refl
  same_kinds kind.Patch kind.Patch is = refl
  same_kinds kind.Link kind.Link is = refl
  same_kinds kind.Turtle kind.Patch is = cc
  same_kinds kind.Turtle kind.Link is = cc
  same_kinds kind.Patch kind.Turtle is = cc
  same_kinds kind.Patch kind.Link is = cc
  same_kinds kind.Link kind.Turtle is = cc
  same_kinds kind.Link kind.Patch is = cc

  abbrev AllIn : AgentKind → List ℕ → Type 0
  AllIn which ns = (z : ℕ) → is_listed ns z ≡ true → is_listed (members_of w.rest (all_of which)) z ≡ true

  one_in : (which own : AgentKind) (lives : Bool) (number : ℕ) (ns : List ℕ) → (lives ≡ true → is_listed (members_of w.rest (all_of own)) number ≡ true) → one_united which own lives number ≡ Ok ns → AllIn which ns
  one_in which own false number ns here is z h = let none : ns ≡ [] = cc in absurd (let wrong = ap (λ l. is_listed l z) (sym none) ∙ h in cc)
  one_in which own true number ns here is z h = by (same_kind which own) refl is
    where
      by : (b : Bool) → same_kind which own ≡ b → (if b then Ok (number ∷ []) else Err WrongType) ≡ Ok ns → is_listed (members_of w.rest (all_of which)) z ≡ true
      by true same given =
          let one : ns ≡ number ∷ [] = cc in
          let it = ⊎_elim (λ first. eqb-true number z first) (λ rest. cc) (or_cases (number == z) false (ap (λ l. is_listed l z) (sym one) ∙ h)) in
          ap (λ k. is_listed (members_of w.rest (all_of k)) z) (same_kinds which own same) ∙ ap (is_listed (members_of w.rest (all_of own))) (sym it) ∙ here refl
      by false same given = cc

  set_kept : (which : AgentKind) (set : AgentSet) (b : Bool) (ns : List ℕ) → same_kind which (set_kind set) ≡ b → (if b then Ok (members_of w.rest set) else Err WrongType) ≡ Ok ns → AllIn which ns
  set_kept which set true ns same is z h =
      let are : ns ≡ members_of w.rest set = cc in
      ap (λ k. is_listed (members_of w.rest (all_of k)) z) (same_kinds which (set_kind set) same) ∙ set_in set z (ap (λ l. is_listed l z) (sym are) ∙ h)
  set_kept which set false ns same is z h = cc

  both_parts : (o u : QueryOutcome (List ℕ)) (ns : List ℕ) → and_then o (λ some. and_then u (λ more. Ok (some ++ more))) ≡ Ok ns
      → (some : List ℕ) × ((more : List ℕ) × ((o ≡ Ok some) × ((u ≡ Ok more) × (ns ≡ some ++ more))))
  both_parts (Ok some) (Ok more) ns is = let are : ns ≡ some ++ more = cc in (some, (more, (refl, (refl, are))))
  both_parts (Ok some) (Err fail) ns is = cc
  both_parts (Err fail) u ns is = cc

  patch_in : (patch : ℕ) → fits_rest w.rest (PlainPatch patch) ≡ true → is_listed (all_patches w.rest.shape) patch ≡ true
  patch_in patch fit = has_range (patches_of w.rest.shape) patch ∙ fit

  mutual
    united_in : (which : AgentKind) (value : Plain) (ns : List ℕ) → fits_rest w.rest value ≡ true → united w.rest which value ≡ Ok ns → AllIn which ns
    united_in which (PlainTurtle serial) ns fit is = one_in which kind.Turtle (turtle_lives w.rest serial) serial ns (lives_listed (λ (t : Turtle). t.serial) w.rest.turtles serial) is
    united_in which (PlainPatch patch) ns fit is = one_in which kind.Patch true patch ns (λ _. patch_in patch fit) is
    united_in which (PlainLink serial) ns fit is = one_in which kind.Link (link_lives w.rest serial) serial ns (lives_listed (λ (l : Link). l.serial) w.rest.links serial) is
    united_in which PlainNobody ns fit is = λ z h. let none : ns ≡ [] = cc in absurd (let wrong = ap (λ l. is_listed l z) (sym none) ∙ h in cc)
    united_in which (PlainSet set) ns fit is = set_kept which set (same_kind which (set_kind set)) ns refl is
    united_in which (PlainItems items) ns fit is = all_in which items ns fit is
    united_in which (PlainNumber count) ns fit is = λ z h. cc
    united_in which (PlainTruth truth) ns fit is = λ z h. cc
    united_in which (PlainWords bytes) ns fit is = λ z h. cc

    all_in : (which : AgentKind) (items : Plains) (ns : List ℕ) → values_fit (patch_fits w.rest) (set_fits w.rest) items ≡ true → all_united w.rest which items ≡ Ok ns → AllIn which ns
    all_in which no_items ns fit is = λ z h. let none : ns ≡ [] = cc in absurd (let wrong = ap (λ l. is_listed l z) (sym none) ∙ h in cc)
    all_in which (item_then first rest) ns fit is =
        let (some, (more, (one, (two, are)))) = both_parts (united w.rest which first) (all_united w.rest which rest) ns is in
        let fits = and_parts (fits_rest w.rest first) (values_fit (patch_fits w.rest) (set_fits w.rest) rest) fit in
        λ z h.
        ⊎_elim (united_in which first some fits.0 one z) (all_in which rest more fits.1 two z)
        (or_cases (is_listed some z) (is_listed more z) (sym (list_any-append (λ y. y == z) some more) ∙ ap (λ l. is_listed l z) (sym are) ∙ h))

  implied : (a b : Bool) → (b ≡ true → a ≡ true) → b ≡ (a && b)
  implied a true h = sym (ap (λ x. x && true) (h refl))
  implied a false h = sym (and_right a false refl)

  nothing_before : (o : QueryOutcome (List ℕ)) (start found : List ℕ) → start ≡ [] → behind start o ≡ Ok found → o ≡ Ok found
  nothing_before (Ok some) start found none is = sym (ap (λ l. Ok (l ++ some)) none) ∙ is
  nothing_before (Err fail) start found none is = is

  -- the union of what was gathered, put in order
  pub union_is : (which : AgentKind) (values : Plains) (start found all : List ℕ) → values_fit (patch_fits w.rest) (set_fits w.rest) values ≡ true
      → start ≡ [] → behind start (all_united w.rest which values) ≡ Ok found → SameNumbers found all → IsStrictlyIncreasing all → union_of w.rest which values ≡ Ok (listed_value which all)
  union_is which values start found all fit none is same up =
      let given = nothing_before (all_united w.rest which values) start found none is in
      let members = members_of w.rest (all_of which) in
      let are : all ≡ filter (is_listed found) members =
      same_ascending all (filter (is_listed found) members) up (IsStrictlyIncreasing-filter (is_listed found) members (members_ascend w (all_of which) world))
      (λ z. same z ∙ implied (is_listed members z) (is_listed found z) (all_in which values found fit given z) ∙ sym (has_filter (is_listed found) members z)) in
      ap (λ o. and_then o (λ numbers. Ok (listed_value which (filter (is_listed numbers) members)))) given ∙ ap (λ l. Ok (listed_value which l)) (sym are)
