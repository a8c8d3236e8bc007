-- How many of a list are left without one of them, and that a turtle is one of those on its patch.
use Rattle.std.proofs.Common.{◌≡◌, ℕ, suc, ◌==◌, ◌||◌, not, cond, Bool, true, false, if◌then◌else◌, find, List, [], ◌∷◌, map, filter, length, Option, Some, None, IsSome, refl, ap, ◌∙◌, sym, arith, ⊎_elim}
use Rattle.std.specs.List.Sorted.{IsStrictlyIncreasing}
use Rattle.std.proofs.lemmas.Bool.{cases_eq, eq-eqb, false_from_ne_true, ne_eqb, or_left, or_right}
use Rattle.nl_value.specs.declared.sets.AgentKind.TheVariants as kind
use Rattle.nl_agents_layout.proofs.Ascending.{first_is_below, has, rest_ascends}
use Rattle.nl_agents.specs.World.{World}
use Rattle.nl_agents.specs.Changes.{is_turtle, turtle_of, TurtleLives}
use Rattle.nl_agents.specs.Standing.{IsWorld}
use Rattle.nl_agents.specs.declared.agents.Owner.{Owner}
use Rattle.nl_agents.specs.declared.agents.Owner.TheVariants as owner
use Rattle.nl_agents.specs.declared.agents.Turtle.{Turtle}
use Rattle.nl_agents.proofs.LivingMembers.{passing_ascend}
use Rattle.nl_agentset_query.specs.Agents.{own_patch}
use Rattle.nl_agentset.specs.Places.{turtles_on}
use Rattle.nl_agentset.specs.Sets.{is_caller}

-- ---- all but one of a list

pub whole : (xs : List ℕ) → filter (λ n. true) xs ≡ xs
whole [] = refl
whole (x ∷ xs) = ap (λ l. x ∷ l) (whole xs)

abbrev is_other : ℕ → ℕ → Bool
is_other z n = not (n == z)

-- a list keeps all where it hasn't the one
all_are_others : (xs : List ℕ) (z : ℕ) → has xs z ≡ false → filter (is_other z) xs ≡ xs
all_are_others [] z h = refl
all_are_others (x ∷ xs) z h =
    ⊎_elim
    (λ same. absurd (let there = or_left (x == z) (has xs z) (eq-eqb x z same) in cc))
    (λ apart. let ne = ne_eqb x z apart in rw ne (ap (λ l. x ∷ l) (all_are_others xs z (sym (ap (λ b. b || has xs z) ne) ∙ h))))
    (cases_eq x z)

-- a list that ascends and has the one is longer by one than without it
pub one_less : (xs : List ℕ) (z : ℕ) → IsStrictlyIncreasing xs → has xs z ≡ true → suc (length (filter (is_other z) xs)) ≡ length xs
one_less [] z up h = absurd (cc)
one_less (x ∷ xs) z up h =
    ⊎_elim
    (λ same.
    let eq = eq-eqb x z same in
    let later = false_from_ne_true (has xs z) (λ there. absurd (omega (arith, same, first_is_below x xs up z there))) in
    rw eq (ap (λ l. suc (length l)) (all_are_others xs z later)))
    (λ apart.
    let ne = ne_eqb x z apart in
    let later = sym (ap (λ b. b || has xs z) ne) ∙ h in
    rw ne (ap suc (one_less xs z (rest_ascends x xs up) later)))
    (cases_eq x z)

-- ---- a turtle on its patch

-- a turtle that is found, and passes the test, is one of those that pass it
named_has : (test : Turtle → Bool) (xs : List Turtle) (z : ℕ) (t : Turtle) → find (is_turtle z) xs ≡ Some t → test t ≡ true
    → has (map (λ (x : Turtle). x.serial) (filter test xs)) z ≡ true
named_has test [] z t e h = absurd (cc)
named_has test (x ∷ xs) z t e h = by (x.serial == z) refl (named_has test xs z t)
  where
    serials : List Turtle → List ℕ
    serials l = map (λ (x : Turtle). x.serial) l

    by : (b : Bool) → (x.serial == z) ≡ b → (find (is_turtle z) xs ≡ Some t → test t ≡ true → has (map (λ (x : Turtle). x.serial) (filter test xs)) z ≡ true)
        → has (map (λ (x : Turtle). x.serial) (filter test (x ∷ xs))) z ≡ true
    by true is rest =
        let found : find (is_turtle z) (x ∷ xs) ≡ Some x = ap (λ b. cond b (Some x) (find (is_turtle z) xs)) is in
        let same : x ≡ t = cc in
        let pass : test x ≡ true = ap test same ∙ h in
        rw pass (or_left (x.serial == z) (has (map (λ (x : Turtle). x.serial) (filter test xs)) z) is)
    by false is rest =
        let found : find (is_turtle z) (x ∷ xs) ≡ find (is_turtle z) xs = ap (λ b. cond b (Some x) (find (is_turtle z) xs)) is in
        kept (test x) (rest (sym found ∙ e) h)
      where
        kept : (c : Bool) → has (map (λ (x : Turtle). x.serial) (filter test xs)) z ≡ true
            → has (map (λ (x : Turtle). x.serial) (if c then x ∷ filter test xs else filter test xs)) z ≡ true
        kept true later = or_right (x.serial == z) (has (map (λ (x : Turtle). x.serial) (filter test xs)) z) later
        kept false later = later

same_listed : (a b : ℕ) → a ≡ b → ((a == b) || false) ≡ true
same_listed a b e = ap (λ c. c || false) (eq-eqb a b e)

own_is_on : (w : World) (turtle : ℕ) → TurtleLives turtle w → has (turtles_on w.rest None (own_patch w.rest (owner.Turtle turtle) ∷ [])) turtle ≡ true
own_is_on w turtle lives = by (turtle_of turtle w.rest) refl lives
  where
    by : (o : Option Turtle) → turtle_of turtle w.rest ≡ o → IsSome o → has (turtles_on w.rest None (own_patch w.rest (owner.Turtle turtle) ∷ [])) turtle ≡ true
    by None is some = absurd (cc)
    by (Some t) is some = named_has _ w.rest.turtles turtle t is (same_listed _ _ (rw is refl))

-- a turtle's patch has one turtle more than others
pub others_on_own : (w : World) (turtle : ℕ) → IsWorld w → TurtleLives turtle w
    → suc (length (filter (is_other turtle) (turtles_on w.rest None (own_patch w.rest (owner.Turtle turtle) ∷ []))))
    ≡ length (turtles_on w.rest None (own_patch w.rest (owner.Turtle turtle) ∷ []))
others_on_own w turtle world lives =
    one_less (turtles_on w.rest None (own_patch w.rest (owner.Turtle turtle) ∷ [])) turtle
    (passing_ascend (λ (t : Turtle). t.serial) _ w.rest.turtles world.agents.turtles_ascend)
    (own_is_on w turtle lives)

-- an agent that is no turtle is none of them
pub no_turtle : (agent : Owner) → ((turtle : ℕ) → agent ≡ owner.Turtle turtle → ⊥) → (xs : List ℕ) → filter (λ n. not (is_caller agent kind.Turtle n)) xs ≡ xs
no_turtle owner.Observer none xs = whole xs
no_turtle (owner.Turtle turtle) none xs = absurd (none turtle refl)
no_turtle (owner.Patch patch) none xs = whole xs
no_turtle (owner.Link link) none xs = whole xs
