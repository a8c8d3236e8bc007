-- Members and answers that fit the world.
use Rattle.std.proofs.Common.{◌≡◌, ◌<◌, ◌&&◌, ℕ, zero, suc, Bool, true, false, if◌then◌else◌, cond, IsTrue, List, [], ◌∷◌, ◌++◌, Option, Some, None, map, filter, length, get_or, slice_get, refl, ap, ◌∙◌, sym, subst, arith, append_assoc}
use Rattle.std.specs.Prelude.{All, Contains, MatchOption, IfSome}
use Rattle.std.specs.List.{list_all}
use Rattle.std.specs.List.Sorted.{IsStrictlyIncreasing}
use Rattle.std.proofs.lemmas.Bool.{and_parts, ltb-true}
use Rattle.std.proofs.lemmas.List.{map-append}
use Rattle.std.proofs.lemmas.List.Folds.{list_all-append, list_all-map}
use Rattle.nl_value.specs.Plain.{PlainItems, PlainLink, plains}
use Rattle.nl_value.specs.Living.{Living}
use Rattle.nl_value.specs.Order.{comes_first}
use Rattle.nl_value.specs.Sorting.{inserted, sorted_by}
use Rattle.nl_value.specs.declared.sets.AgentKind.{AgentKind}
use Rattle.nl_value.specs.declared.sets.AgentKind.TheVariants as kind
use Rattle.nl_grid.specs.Geometry.{patches_of}
use Rattle.nl_agents.specs.World.{World}
use Rattle.nl_agents.specs.Standing.{IsWorld}
use Rattle.nl_agents.proofs.LivingMembers.{passing_ascend}
use Rattle.nl_agentset_query.specs.Agents.{agent_value, agent_or_nobody, listed_value}
use Rattle.nl_exec_meaning.specs.Walks.{Answer, in_order_of_agents, in_order_of_values, members_kept}
use Rattle.nl_exec_meaning.specs.Ground.{Ground, ground_of, patch_in, set_in, fits}
use Rattle.nl_exec_meaning.specs.Standing.{MembersAscend, MembersFit}
use Rattle.nl_exec_meaning.specs.declared.turns.Gathered.{Gathered}
use Rattle.nl_exec_meaning.specs.declared.turns.Gathered.TheVariants as gathered
use Rattle.nl_exec_meaning.proofs.Grounds.{items_fit, pass_get, pass_push}
use Rattle.nl_exec_walks.proofs.Rising.{rising_front, rising_without}

-- ---- lists of which all pass a test

module _ {A : Type 0} (test : A → Bool) where
  pass_both : (x : A) (xs : List A) → IsTrue (test x) → IsTrue (list_all test xs) → IsTrue (list_all test (x ∷ xs))
  pass_both x xs one all = ap (λ b. b && list_all test xs) one ∙ all

  pub pass_front : (xs ys : List A) → IsTrue (list_all test (xs ++ ys)) → IsTrue (list_all test xs)
  pass_front xs ys all = (and_parts (list_all test xs) (list_all test ys) (sym (list_all-append test xs ys) ∙ all)).0

  filtered_by : (keep : A → Bool) (x : A) (xs : List A) (b : Bool) → IsTrue (test x) → IsTrue (list_all test (filter keep xs)) → IsTrue (list_all test (cond b (x ∷ filter keep xs) (filter keep xs)))
  filtered_by keep x xs true one rest = pass_both x (filter keep xs) one rest
  filtered_by keep x xs false one rest = rest

  pub pass_filter : (keep : A → Bool) (xs : List A) → IsTrue (list_all test xs) → IsTrue (list_all test (filter keep xs))
  pass_filter keep [] all = refl
  pass_filter keep (x ∷ xs) all =
      let both = and_parts (test x) (list_all test xs) all in
      filtered_by keep x xs (keep x) both.0 (pass_filter keep xs both.1)

  inserted_by : (first : A → A → Bool) (x y : A) (ys : List A) (b : Bool) → IsTrue (test x) → IsTrue (test y) → IsTrue (list_all test ys) → IsTrue (list_all test (inserted first x ys))
      → IsTrue (list_all test (if b then y ∷ inserted first x ys else x ∷ y ∷ ys))
  inserted_by first x y ys true one two rest later = pass_both y (inserted first x ys) two later
  inserted_by first x y ys false one two rest later = pass_both x (y ∷ ys) one (pass_both y ys two rest)

  pass_inserted : (first : A → A → Bool) (x : A) (ys : List A) → IsTrue (test x) → IsTrue (list_all test ys) → IsTrue (list_all test (inserted first x ys))
  pass_inserted first x [] one all = pass_both x [] one refl
  pass_inserted first x (y ∷ ys) one all =
      let both = and_parts (test y) (list_all test ys) all in
      inserted_by first x y ys (first y x) one both.0 both.1 (pass_inserted first x ys one both.1)

  pub pass_sorted : (first : A → A → Bool) (xs : List A) → IsTrue (list_all test xs) → IsTrue (list_all test (sorted_by first xs))
  pass_sorted first [] all = refl
  pass_sorted first (x ∷ xs) all =
      let both = and_parts (test x) (list_all test xs) all in
      pass_inserted first x (sorted_by first xs) both.0 (pass_sorted first xs both.1)

  pass_at : (xs : List A) (k : ℕ) (x : A) → IsTrue (list_all test xs) → k < length xs → get_or xs k x ≡ x → IsTrue (test x)
  pass_at [] k x all inside is = absurd (omega (arith, inside))
  pass_at (y ∷ xs) zero x all inside is = ap test (sym is) ∙ (and_parts (test y) (list_all test xs) all).0
  pass_at (y ∷ xs) (suc k) x all inside is = pass_at xs k x (and_parts (test y) (list_all test xs) all).1 (omega (arith, inside)) is

  pub pass_contained : (xs : List A) (x : A) → IsTrue (list_all test xs) → Contains xs x → IsTrue (test x)
  pass_contained xs x all among = pass_at xs among.0 x all among.1 among.2

-- ---- members

pub filtered_fit : (g : Ground) (which : AgentKind) (keep : ℕ → Bool) (numbers : List ℕ) → MembersFit g which numbers → MembersFit g which (filter keep numbers)
filtered_fit g kind.Patch keep numbers fit = pass_filter (patch_in g) keep numbers fit
filtered_fit g kind.Turtle keep numbers fit = tt
filtered_fit g kind.Link keep numbers fit = tt

pub kept_fit : (g : Ground) (which : AgentKind) (keep : Answer → Bool) (made : List Answer) → MembersFit g which (members_kept made) → MembersFit g which (members_kept (filter keep made))
kept_fit g kind.Patch keep made fit =
    list_all-map (patch_in g) (λ (a : Answer). a.member) (filter keep made)
    ∙ pass_filter (λ (a : Answer). patch_in g a.member) keep made (sym (list_all-map (patch_in g) (λ (a : Answer). a.member) made) ∙ fit)
kept_fit g kind.Turtle keep made fit = tt
kept_fit g kind.Link keep made fit = tt

pub kept_ascend : (keep : Answer → Bool) (made : List Answer) → IsStrictlyIncreasing (members_kept made) → IsStrictlyIncreasing (members_kept (filter keep made))
kept_ascend keep made up = passing_ascend (λ (a : Answer). a.member) keep made up

pub members_front : (g : Ground) (which : AgentKind) (xs ys : List ℕ) → MembersFit g which (xs ++ ys) → MembersFit g which xs
members_front g kind.Patch xs ys fit = pass_front (patch_in g) xs ys fit
members_front g kind.Turtle xs ys fit = tt
members_front g kind.Link xs ys fit = tt

pub members_push : (g : Ground) (which : AgentKind) (xs ms : List ℕ) (p m : ℕ) → MembersFit g which xs → MembersFit g which ms → slice_get ms p ≡ Some m → MembersFit g which (xs ++ m ∷ [])
members_push g kind.Patch xs ms p m fit all here = pass_push (patch_in g) xs m fit (pass_get (patch_in g) ms p m all here)
members_push g kind.Turtle xs ms p m fit all here = tt
members_push g kind.Link xs ms p m fit all here = tt

pub members_one : (g : Ground) (which : AgentKind) (ms : List ℕ) (p m : ℕ) → MembersFit g which ms → slice_get ms p ≡ Some m → MembersFit g which (m ∷ [])
members_one g which ms p m all here = members_push g which [] ms p m (none_fit which) all here
  where
    none_fit : (k : AgentKind) → MembersFit g k []
    none_fit kind.Patch = refl
    none_fit kind.Turtle = tt
    none_fit kind.Link = tt

-- ---- as values

pub listed_fits : (g : Ground) (which : AgentKind) (numbers : List ℕ) → MembersFit g which numbers → IsTrue (fits g (listed_value which numbers))
unfolding set_in patch_in
listed_fits g kind.Patch numbers fit = fit
listed_fits g kind.Turtle numbers fit = refl
listed_fits g kind.Link numbers fit = refl

pub one_fits : (g : Ground) (which : AgentKind) (numbers : List ℕ) (o : Option ℕ) → MembersFit g which numbers → MatchOption o (numbers ≡ []) (Contains numbers) → IsTrue (fits g (agent_or_nobody which o))
one_fits g which numbers None fit among = refl
one_fits g kind.Patch numbers (Some number) fit among = pass_contained (patch_in g) numbers number fit among
one_fits g kind.Turtle numbers (Some number) fit among = refl
one_fits g kind.Link numbers (Some number) fit among = refl

agents_fit : (g : Ground) (which : AgentKind) (made : List Answer) → MembersFit g which (members_kept made) → IsTrue (list_all (λ a. fits g (agent_value which a.member)) made)
agents_fit g kind.Patch made fit = sym (list_all-map (patch_in g) (λ (a : Answer). a.member) made) ∙ fit
agents_fit g kind.Turtle [] fit = refl
agents_fit g kind.Turtle (a ∷ made) fit = agents_fit g kind.Turtle made tt
agents_fit g kind.Link [] fit = refl
agents_fit g kind.Link (a ∷ made) fit = agents_fit g kind.Link made tt

-- agents in the order of their answers
pass_in_order : (test : Answer → Bool) (w : Living) (which : AgentKind) (made : List Answer) → IsTrue (list_all test made) → IsTrue (list_all test (in_order_of_agents w which made))
pass_in_order test w kind.Turtle made all = all
pass_in_order test w kind.Patch made all = all
pass_in_order test w kind.Link made all = pass_sorted test (λ a b. comes_first w (PlainLink a.member) (PlainLink b.member)) made all

pub in_order_fit : (g : Ground) (w : Living) (which : AgentKind) (made : List Answer) → MembersFit g which (members_kept made)
    → IsTrue (fits g (PlainItems (plains (map (λ a. agent_value which a.member) (in_order_of_values w which made)))))
in_order_fit g w which made fit =
    let test = λ (a : Answer). fits g (agent_value which a.member) in
    let first = in_order_of_agents w which made in
    let sorted = pass_sorted test (λ a b. comes_first w a.value b.value) first (pass_in_order test w which made (agents_fit g which made fit)) in
    items_fit g (map (λ (a : Answer). agent_value which a.member) (in_order_of_values w which made)) (list_all-map (fits g) (λ (a : Answer). agent_value which a.member) (in_order_of_values w which made) ∙ sorted)

pub values_fit : (g : Ground) (made : List Answer) → IsTrue (list_all (λ a. fits g a.value) made) → IsTrue (fits g (PlainItems (plains (map (λ a. a.value) made))))
values_fit g made all = items_fit g (map (λ (a : Answer). a.value) made) (list_all-map (fits g) (λ (a : Answer). a.value) made ∙ all)

-- ---- numbers of patches are small

patch_small : (w : World) (number : ℕ) → IsWorld w → IsTrue (patch_in (ground_of w.rest) number) → number < 4294967296
unfolding patch_in
patch_small w number world fit =
    let below = ltb-true number (patches_of w.rest.shape) fit in
    omega (arith, below, world.shape.few)

pub all_small : (w : World) (which : AgentKind) (numbers : List ℕ) → IsWorld w → MembersFit (ground_of w.rest) which numbers → which ≡ kind.Patch → All (λ n. n < 4294967296) numbers
all_small w kind.Patch numbers world fit is = λ k d inside. patch_small w (get_or numbers k d) world (pass_at (patch_in (ground_of w.rest)) numbers k (get_or numbers k d) fit inside (same numbers k d inside))
  where
    same : (xs : List ℕ) (k d : ℕ) → k < length xs → get_or xs k (get_or xs k d) ≡ get_or xs k d
    same [] k d inside = absurd (omega (arith, inside))
    same (x ∷ xs) zero d inside = refl
    same (x ∷ xs) (suc k) d inside = same xs k d (omega (arith, inside))
all_small w kind.Turtle numbers world fit is = absurd (cc)
all_small w kind.Link numbers world fit is = absurd (cc)

pub one_small : (w : World) (which : AgentKind) (numbers : List ℕ) (o : Option ℕ) → IsWorld w → MembersFit (ground_of w.rest) which numbers
    → MatchOption o (numbers ≡ []) (Contains numbers) → which ≡ kind.Patch → IfSome o (λ n. n < 4294967296)
one_small w which numbers None world fit among is = tt
one_small w kind.Patch numbers (Some number) world fit among is = patch_small w number world (pass_contained (patch_in (ground_of w.rest)) numbers number fit among)
one_small w kind.Turtle numbers (Some number) world fit among is = absurd (cc)
one_small w kind.Link numbers (Some number) world fit among is = absurd (cc)

-- ---- members that ascend

pub ascend_front : (what : Gathered) (xs ys : List ℕ) → MembersAscend what (xs ++ ys) → MembersAscend what xs
ascend_front (gathered.OfSet word) xs ys up = rising_front xs ys up
ascend_front (gathered.Several up number) xs ys rise = rising_front xs ys rise
ascend_front (gathered.OfAll several) xs ys up = tt

pub ascend_without : (what : Gathered) (xs : List ℕ) (y : ℕ) (ys : List ℕ) → MembersAscend what (xs ++ y ∷ ys) → MembersAscend what (xs ++ ys)
ascend_without (gathered.OfSet word) xs y ys up = rising_without xs y ys up
ascend_without (gathered.Several up number) xs y ys rise = rising_without xs y ys rise
ascend_without (gathered.OfAll several) xs y ys up = tt

pub members_pushed : (made : List Answer) (a : Answer) → members_kept (made ++ a ∷ []) ≡ members_kept made ++ a.member ∷ []
members_pushed made a = map-append (λ (b : Answer). b.member) made (a ∷ [])

pub ascend_pushed : (what : Gathered) (made : List Answer) (a : Answer) (ys : List ℕ) → MembersAscend what (members_kept made ++ a.member ∷ ys)
    → MembersAscend what (members_kept (made ++ a ∷ []) ++ ys)
ascend_pushed what made a ys up =
    subst (λ xs. MembersAscend what xs) (sym (ap (λ xs. xs ++ ys) (members_pushed made a) ∙ append_assoc (members_kept made) (a.member ∷ []) ys)) up
