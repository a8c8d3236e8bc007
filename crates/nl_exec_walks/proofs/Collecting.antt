-- A collection goes on at the first member that lives.
use Rattle.std.proofs.Common.{◌≡◌, ◌+◌, ◌<◌, ℕ, zero, suc, Bool, true, false, List, [], ◌∷◌, ◌++◌, Option, Some, None, drop, length, get_or, slice_get, refl, ap, ◌∙◌, sym, subst, arith}
use Rattle.std.specs.Option.{option_map}
use Rattle.std.specs.List.Sorted.{IsStrictlyIncreasing}
use Rattle.std.proofs.lemmas.List.{drop-drop}
use Rattle.std.proofs.lemmas.Option.{slice_get_read}
use Rattle.nl_value.specs.declared.sets.AgentKind.{AgentKind}
use Rattle.nl_tree.specs.Tree.{Node, span}
use Rattle.nl_agents.specs.World.{Rest}
use Rattle.nl_exec_meaning.specs.declared.words.Over.{Over}
use Rattle.nl_exec_meaning.specs.State.{State, Eval, Outcome, at_site, choose, rest_of, spend, with_part}
use Rattle.nl_exec_meaning.specs.Walks.{Answer, asked, collect, lives, replied, reply_to, valued}
use Rattle.nl_exec_meaning.specs.declared.sites.Site.{Site}
use Rattle.nl_exec_meaning.specs.Standing.{MembersAscend}
use Rattle.nl_exec_meaning.specs.declared.turns.Gathered.{Gathered}
use Rattle.nl_exec_meaning.specs.declared.turns.Gathered.TheVariants as gathered
use Rattle.nl_exec_walks.specs.Turning.{first_by, first_of}
use Rattle.nl_exec_walks.proofs.Rising.{rising_drop}

-- ---- the first that lives

-- it is a member behind so many
pub record IsFirst (r : Rest) (which : AgentKind) (ms : List ℕ) (i : ℕ) : Type 0 where
  pub member : ℕ
  pub here : drop i ms ≡ member ∷ drop (suc i) ms
  pub lives : lives r which member ≡ true

first_is_by : (r : Rest) (which : AgentKind) (m : ℕ) (ms : List ℕ) (i : ℕ) (b : Bool) (o : Option ℕ) → lives r which m ≡ b → first_by b o ≡ Some i
    → ((j : ℕ) → o ≡ Some j → IsFirst r which ms j) → IsFirst r which (m ∷ ms) i
first_is_by r which m ms i true o is found later =
    let same : 0 ≡ i = cc in
    subst (λ n. IsFirst r which (m ∷ ms) n) same (record { member = m; here = refl; lives = is })
first_is_by r which m ms i false None is found later = absurd (cc)
first_is_by r which m ms i false (Some j) is found later =
    let same : suc j ≡ i = cc in
    let first = later j refl in
    subst (λ n. IsFirst r which (m ∷ ms) n) same (record { member = first.member; here = first.here; lives = first.lives })

pub first_is : (r : Rest) (which : AgentKind) (ms : List ℕ) (i : ℕ) → first_of r which ms ≡ Some i → IsFirst r which ms i
first_is r which [] i found = absurd (cc)
first_is r which (m ∷ ms) i found = first_is_by r which m ms i (lives r which m) (first_of r which ms) refl found (λ j is. first_is r which ms j is)

at_place : (ms : List ℕ) (p m : ℕ) → slice_get ms p ≡ Some m → drop p ms ≡ m ∷ drop (suc p) ms
at_place [] p m is = absurd (cc)
at_place (x ∷ ms) zero m is = let same : x ≡ m = cc in ap (λ y. y ∷ ms) same
at_place (x ∷ ms) (suc p) m is = at_place ms p m is

-- ---- turns

-- the turn of a member, and those after it
abbrev pub turn_taken : Over → Eval → Node → ℕ → Site → AgentKind → ℕ → List ℕ → List Answer → State → (List Answer → State → Outcome) → Outcome
turn_taken word prev t index site which m ms made s next =
    with_part t index (span t) s (λ block. spend (at_site (asked which m site) s) (λ s1.
    valued site (span t) (prev block s1) (λ value s2.
    replied (reply_to word value) (span t) m value made s2 (λ more s3. collect word prev t index site which ms more s3 next))))

module _ (word : Over) (prev : Eval) (t : Node) (index : ℕ) (site : Site) (which : AgentKind) (made : List Answer) (s : State) (next : List Answer → State → Outcome) where
  abbrev here : List ℕ → Outcome
  here ms = collect word prev t index site which ms made s next

  abbrev taken : ℕ → List ℕ → Outcome
  taken m ms = turn_taken word prev t index site which m ms made s next

  -- what a collection is from the index of its first living member on, if it has one
  abbrev from_first : Option ℕ → List ℕ → Outcome
  from_first None ms = next made s
  from_first (Some i) ms = here (drop i ms)

  begins_by : (m : ℕ) (ms : List ℕ) (b : Bool) (o : Option ℕ) → lives (rest_of s) which m ≡ b → here ms ≡ from_first o ms → here (m ∷ ms) ≡ from_first (first_by b o) (m ∷ ms)
  begins_by m ms true o is rest = refl
  begins_by m ms false None is rest = ap (λ b. choose b (taken m ms) (here ms)) is ∙ rest
  begins_by m ms false (Some i) is rest = ap (λ b. choose b (taken m ms) (here ms)) is ∙ rest

  begins : (ms : List ℕ) → here ms ≡ from_first (first_of (rest_of s) which ms) ms
  begins [] = refl
  begins (m ∷ ms) = begins_by m ms (lives (rest_of s) which m) (first_of (rest_of s) which ms) refl (begins ms)

  -- no member lives
  pub none_left : (ms : List ℕ) (at : ℕ) (o : Option ℕ) → o ≡ None → o ≡ option_map (λ i. at + i) (first_of (rest_of s) which (drop at ms)) → here (drop at ms) ≡ next made s
  none_left ms at o none is = by (first_of (rest_of s) which (drop at ms)) refl
    where
      by : (f : Option ℕ) → first_of (rest_of s) which (drop at ms) ≡ f → here (drop at ms) ≡ next made s
      by None found = begins (drop at ms) ∙ ap (λ f. from_first f (drop at ms)) found
      by (Some i) found =
          let wrong : None ≡ Some (at + i) = sym none ∙ is ∙ ap (option_map (λ i. at + i)) found in
          absurd (cc)

  lives_here : (m : ℕ) (ms : List ℕ) → lives (rest_of s) which m ≡ true → here (m ∷ ms) ≡ taken m ms
  lives_here m ms is = ap (λ b. choose b (taken m ms) (here ms)) is

  -- the member at a place is the first that lives
  pub turn_comes : (ms : List ℕ) (at place m : ℕ) (o : Option ℕ) → o ≡ Some place → o ≡ option_map (λ i. at + i) (first_of (rest_of s) which (drop at ms)) → slice_get ms place ≡ Some m
      → here (drop at ms) ≡ taken m (drop (place + 1) ms)
  turn_comes ms at place m o some is stands = by (first_of (rest_of s) which (drop at ms)) refl
    where
      by : (f : Option ℕ) → first_of (rest_of s) which (drop at ms) ≡ f → here (drop at ms) ≡ taken m (drop (place + 1) ms)
      by None found =
          let wrong : Some place ≡ None = sym some ∙ is ∙ ap (option_map (λ i. at + i)) found in
          absurd (cc)
      by (Some i) found =
          let first = first_is (rest_of s) which (drop at ms) i found in
          let both : Some place ≡ Some (at + i) = sym some ∙ is ∙ ap (option_map (λ i. at + i)) found in
          let same : place ≡ at + i = cc in
          let there : drop i (drop at ms) ≡ m ∷ drop (suc place) ms = drop-drop i at ms ∙ ap (λ n. drop n ms) (sym same) ∙ at_place ms place m stands in
          let heads : first.member ∷ drop (suc i) (drop at ms) ≡ m ∷ drop (suc place) ms = sym first.here ∙ there in
          let head : first.member ≡ m = cc in
          let one : suc place ≡ place + 1 = omega arith in
          begins (drop at ms) ∙ ap (λ f. from_first f (drop at ms)) found
          ∙ ap here there
          ∙ lives_here m (drop (suc place) ms) (ap (lives (rest_of s) which) (sym head) ∙ first.lives)
          ∙ ap (λ n. taken m (drop n ms)) one

-- the first that lives is a member
below : (ms : List ℕ) (p m : ℕ) (rest : List ℕ) → drop p ms ≡ m ∷ rest → p < length ms
below [] zero m rest is = absurd (cc)
below [] (suc p) m rest is = absurd (cc)
below (x ∷ ms) zero m rest is = omega arith
below (x ∷ ms) (suc p) m rest is = omega (arith, below ms p m rest is)

pub place_below : (r : Rest) (which : AgentKind) (ms : List ℕ) (at place : ℕ) (o : Option ℕ) → o ≡ Some place → o ≡ option_map (λ i. at + i) (first_of r which (drop at ms)) → place < length ms
place_below r which ms at place o some is = by (first_of r which (drop at ms)) refl
  where
    by : (f : Option ℕ) → first_of r which (drop at ms) ≡ f → place < length ms
    by None found =
        let wrong : Some place ≡ None = sym some ∙ is ∙ ap (option_map (λ i. at + i)) found in
        absurd (cc)
    by (Some i) found =
        let first = first_is r which (drop at ms) i found in
        let both : Some place ≡ Some (at + i) = sym some ∙ is ∙ ap (option_map (λ i. at + i)) found in
        let same : at + i ≡ place = cc in
        below ms place first.member (drop (suc i) (drop at ms)) (sym (drop-drop i at ms ∙ ap (λ n. drop n ms) same) ∙ first.here)

pub place_has : (ms : List ℕ) (place m : ℕ) → place < length ms → m ≡ get_or ms place m → slice_get ms place ≡ Some m
place_has ms place m inside is = slice_get_read ms (length ms) place m refl inside is

-- ---- the members ascend from then on

pub ascends_on : (xs ms : List ℕ) (at place m : ℕ) (f : Option ℕ) → Some place ≡ option_map (λ i. at + i) f → slice_get ms place ≡ Some m
    → IsStrictlyIncreasing (xs ++ drop at ms) → IsStrictlyIncreasing (xs ++ m ∷ drop (place + 1) ms)
ascends_on xs ms at place m None is stands up = absurd (cc)
ascends_on xs ms at place m (Some i) is stands up =
    let same : place ≡ at + i = cc in
    let one : suc place ≡ place + 1 = omega arith in
    let there : drop i (drop at ms) ≡ m ∷ drop (place + 1) ms =
    drop-drop i at ms ∙ ap (λ n. drop n ms) (sym same) ∙ at_place ms place m stands ∙ ap (λ n. m ∷ drop n ms) one in
    subst (λ ys. IsStrictlyIncreasing (xs ++ ys)) there (rising_drop xs i (drop at ms) up)

pub members_ascend_on : (what : Gathered) (xs ms : List ℕ) (at place m : ℕ) (f : Option ℕ) → Some place ≡ option_map (λ i. at + i) f → slice_get ms place ≡ Some m
    → MembersAscend what (xs ++ drop at ms) → MembersAscend what (xs ++ m ∷ drop (place + 1) ms)
members_ascend_on (gathered.OfSet word) xs ms at place m f is stands up = ascends_on xs ms at place m f is stands up
members_ascend_on (gathered.Several up number) xs ms at place m f is stands rise = ascends_on xs ms at place m f is stands rise
members_ascend_on (gathered.OfAll several) xs ms at place m f is stands up = tt
