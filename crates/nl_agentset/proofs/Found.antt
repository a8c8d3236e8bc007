-- Agents that pass tests, as they are found by their serials one after another.
use Rattle.std.specs.Prelude.{◌≡◌, ℕ, ◌<◌, length, ◌==◌, ◌&&◌, ◌||◌, Bool, true, false, if◌then◌else◌, List, [], ◌∷◌, map, filter, Option, Some, None, is_some, All, refl}
use Rattle.std.specs.List.{list_any}
use Rattle.std.proofs.lemmas.List.Elements.{filter_passes}
use Rattle.std.proofs.Common.{ap, sym, ◌∙◌, subst, get_or, ⊎_elim}
use Rattle.std.proofs.lemmas.Bool.{eq-eqb, eqb-true, or_cases}
use Rattle.std.proofs.lemmas.List.Folds.{list_any_at}
use Rattle.std.proofs.lemmas.List.Elements.{All-head, All-tail}
use Rattle.nl_grid.proofs.FewLemmas.{filter_twice}
use Rattle.nl_agents.specs.World.{World}
use Rattle.nl_agents.specs.Changes.{turtle_of, link_of, TurtleLives, LinkLives}
use Rattle.nl_agents.specs.Members.{turtles_where, links_where, is_listed}
use Rattle.nl_agents.specs.Standing.{IsWorld}
use Rattle.nl_agents.specs.declared.agents.Turtle as the_turtle
use Rattle.nl_agents.specs.declared.agents.Link as the_link
use Rattle.nl_agents.proofs.LivingMembers.{found_passing}
use Rattle.nl_agentset_query.specs.Agents.{turtle_passes, link_passes}
use Rattle.nl_agentset.specs.Sets.{has_members}
use Rattle.nl_agentset_query.specs.Orders.{SameNumbers}

-- tests that agree keep the same numbers
pub same_filter : (p q : ℕ → Bool) (xs : List ℕ) → ((z : ℕ) → p z ≡ q z) → filter p xs ≡ filter q xs
same_filter p q [] same = refl
same_filter p q (x ∷ xs) same = by (p x) (q x) (same x) (same_filter p q xs same)
  where
    by : (a b : Bool) → a ≡ b → filter p xs ≡ filter q xs → (if a then x ∷ filter p xs else filter p xs) ≡ (if b then x ∷ filter q xs else filter q xs)
    by true true is later = ap (λ l. x ∷ l) later
    by false false is later = later
    by true false is later = cc
    by false true is later = cc

turtle_both : (p test : the_turtle.Turtle → Bool) (o : Option the_turtle.Turtle) → (turtle_passes p o && turtle_passes test o) ≡ turtle_passes (λ t. p t && test t) o
turtle_both p test None = refl
turtle_both p test (Some t) = refl

link_both : (p test : the_link.Link → Bool) (o : Option the_link.Link) → (link_passes p o && link_passes test o) ≡ link_passes (λ l. p l && test l) o
link_both p test None = refl
link_both p test (Some l) = refl

-- of the turtles that pass a first test those that pass a second one
pub turtles_kept : (w : World) (p test : the_turtle.Turtle → Bool) → IsWorld w
    → filter (λ z. turtle_passes test (turtle_of z w.rest)) (turtles_where p w.rest) ≡ turtles_where (λ t. p t && test t) w.rest
turtles_kept w p test world =
    let serial : the_turtle.Turtle → ℕ = λ t. t.serial in
    let all = map serial w.rest.turtles in
    let first : ℕ → Bool = λ z. turtle_passes p (turtle_of z w.rest) in
    let second : ℕ → Bool = λ z. turtle_passes test (turtle_of z w.rest) in
    let both : ℕ → Bool = λ z. turtle_passes (λ t. p t && test t) (turtle_of z w.rest) in
    ap (filter second) (sym (found_passing serial p w.rest.turtles world.agents.turtles_ascend))
    ∙ filter_twice first second all
    ∙ same_filter (λ z. first z && second z) both all (λ z. turtle_both p test (turtle_of z w.rest))
    ∙ found_passing serial (λ t. p t && test t) w.rest.turtles world.agents.turtles_ascend

pub links_kept : (w : World) (p test : the_link.Link → Bool) → IsWorld w
    → filter (λ z. link_passes test (link_of z w.rest)) (links_where p w.rest) ≡ links_where (λ l. p l && test l) w.rest
links_kept w p test world =
    let serial : the_link.Link → ℕ = λ l. l.serial in
    let all = map serial w.rest.links in
    let first : ℕ → Bool = λ z. link_passes p (link_of z w.rest) in
    let second : ℕ → Bool = λ z. link_passes test (link_of z w.rest) in
    let both : ℕ → Bool = λ z. link_passes (λ l. p l && test l) (link_of z w.rest) in
    ap (filter second) (sym (found_passing serial p w.rest.links world.agents.links_ascend))
    ∙ filter_twice first second all
    ∙ same_filter (λ z. first z && second z) both all (λ z. link_both p test (link_of z w.rest))
    ∙ found_passing serial (λ l. p l && test l) w.rest.links world.agents.links_ascend

-- tests of agents that agree keep the same ones
pub same_links : (p q : the_link.Link → Bool) (ls : List the_link.Link) → ((l : the_link.Link) → p l ≡ q l) → filter p ls ≡ filter q ls
same_links p q [] same = refl
same_links p q (l ∷ ls) same = by (p l) (q l) (same l) (same_links p q ls same)
  where
    by : (a b : Bool) → a ≡ b → filter p ls ≡ filter q ls → (if a then l ∷ filter p ls else filter p ls) ≡ (if b then l ∷ filter q ls else filter q ls)
    by true true is later = ap (λ more. l ∷ more) later
    by false false is later = later
    by true false is later = cc
    by false true is later = cc

pub same_turtles : (p q : the_turtle.Turtle → Bool) (ts : List the_turtle.Turtle) → ((t : the_turtle.Turtle) → p t ≡ q t) → filter p ts ≡ filter q ts
same_turtles p q [] same = refl
same_turtles p q (t ∷ ts) same = by (p t) (q t) (same t) (same_turtles p q ts same)
  where
    by : (a b : Bool) → a ≡ b → filter p ts ≡ filter q ts → (if a then t ∷ filter p ts else filter p ts) ≡ (if b then t ∷ filter q ts else filter q ts)
    by true true is later = ap (λ more. t ∷ more) later
    by false false is later = later
    by true false is later = cc
    by false true is later = cc

-- ---- who passes a test lives

turtle_there : (test : the_turtle.Turtle → Bool) (o : Option the_turtle.Turtle) → turtle_passes test o ≡ true → is_some o ≡ true
turtle_there test None is = is
turtle_there test (Some t) is = refl

link_there : (test : the_link.Link → Bool) (o : Option the_link.Link) → link_passes test o ≡ true → is_some o ≡ true
link_there test None is = is
link_there test (Some l) is = refl

pub turtles_live : (w : World) (test : the_turtle.Turtle → Bool) → IsWorld w → All (λ z. TurtleLives z w) (turtles_where test w.rest)
turtles_live w test world =
    let serial : the_turtle.Turtle → ℕ = λ t. t.serial in
    let passes : ℕ → Bool = λ z. turtle_passes test (turtle_of z w.rest) in
    let all = map serial w.rest.turtles in
    subst (λ zs. All (λ z. TurtleLives z w) zs) (found_passing serial test w.rest.turtles world.agents.turtles_ascend)
    (λ k z inside. turtle_there test (turtle_of _ w.rest) (filter_passes passes all k z inside))

pub links_live : (w : World) (test : the_link.Link → Bool) → IsWorld w → All (λ z. LinkLives z w) (links_where test w.rest)
links_live w test world =
    let serial : the_link.Link → ℕ = λ l. l.serial in
    let passes : ℕ → Bool = λ z. link_passes test (link_of z w.rest) in
    let all = map serial w.rest.links in
    subst (λ zs. All (λ z. LinkLives z w) zs) (found_passing serial test w.rest.links world.agents.links_ascend)
    (λ k z inside. link_there test (link_of _ w.rest) (filter_passes passes all k z inside))

-- ---- whether any passes

pub any_number : (p : ℕ → Bool) (xs : List ℕ) → has_members (filter p xs) ≡ list_any p xs
any_number p [] = refl
any_number p (x ∷ xs) = by (p x) (any_number p xs)
  where
    by : (b : Bool) → has_members (filter p xs) ≡ list_any p xs → has_members (if b then x ∷ filter p xs else filter p xs) ≡ (b || list_any p xs)
    by true later = refl
    by false later = later

pub any_link : (test : the_link.Link → Bool) (ls : List the_link.Link) → has_members (map (λ l. l.serial) (filter test ls)) ≡ list_any test ls
any_link test [] = refl
any_link test (l ∷ ls) = by (test l) (any_link test ls)
  where
    by : (b : Bool) → has_members (map (λ x. x.serial) (filter test ls)) ≡ list_any test ls
        → has_members (map (λ x. x.serial) (if b then l ∷ filter test ls else filter test ls)) ≡ (b || list_any test ls)
    by true later = refl
    by false later = later

-- one of a list, by the test of that
pub one_of_all : (P : ℕ → Type 0) (xs : List ℕ) (z : ℕ) → All P xs → is_listed xs z ≡ true → P z
one_of_all P [] z all h = cc
one_of_all P (x ∷ xs) z all h =
    ⊎_elim (λ here. subst P (eqb-true x z here) (All-head P x xs all)) (λ later. one_of_all P xs z (All-tail P x xs all) later)
    (or_cases (x == z) (is_listed xs z) h)

listed_at : (xs : List ℕ) (k z : ℕ) → k < length xs → is_listed xs (get_or xs k z) ≡ true
listed_at xs k z inside = list_any_at (λ y. y == get_or xs k z) xs k z inside (eq-eqb (get_or xs k z) (get_or xs k z) refl)

-- what is true of each of a list is true of each of one with the same numbers
pub all_of_same : (P : ℕ → Type 0) (xs ys : List ℕ) → SameNumbers xs ys → All P xs → All P ys
all_of_same P xs ys same all k z inside = one_of_all P xs (get_or ys k z) all (sym (same (get_or ys k z)) ∙ listed_at ys k z inside)
