-- Who is joined with a caller: what is found link by link is what a look over all links says.
use Rattle.std.specs.Prelude.{◌≡◌, ℕ, ◌+◌, ◌<◌, ◌≤◌, ◌==◌, suc, nat_lt, if◌then◌else◌, Bool, true, false, ◌&&◌, ◌||◌, cond, List, [], ◌∷◌, ◌++◌, map, filter, take, length, min, max, Option, Some, None, is_some, All}
use Rattle.std.specs.List.{list_any, Contains, dedup}
use Rattle.std.specs.Option.{option_and_then}
use Rattle.std.proofs.Common.{arith, ap, ap₂, ◌∙◌, sym, refl, subst, get_or, eqb, Vec, Global}
use Rattle.std.proofs.lemmas.Bool.{cond_both, eq-eqb, eqb-true, le-leb}
use Rattle.std.proofs.lemmas.Bool.Decides.{same_from_decides, nat_tests}
use Rattle.std.proofs.lemmas.Option.{slice_get-get_or}
use Rattle.std.proofs.lemmas.List.{take_more, take_all}
use Rattle.std.proofs.lemmas.List.Elements.{All-head, All-tail, All-map, All-filter, All-weaker}
use Rattle.std.proofs.lemmas.List.Folds.{Any-from_list_any, list_any-from_Any}
use Rattle.std.proofs.lemmas.List.Kept.{Contains-from_dedup, Contains-dedup_nat}
use Rattle.nl_agents_layout.specs.Nouns.{BreedNumber}
use Rattle.nl_agents.specs.World.{Rest, World}
use Rattle.nl_agents.specs.Changes.{link_of, LinkLives, joins, has_end}
use Rattle.nl_agents.specs.Members.{links_where, is_listed}
use Rattle.nl_agents.specs.Standing.{IsWorld}
use Rattle.nl_agents.specs.declared.agents.Link.{Link}
use Rattle.nl_agents.proofs.Keyed.{found_at}
use Rattle.nl_birth.specs.Links.{has_direction, first_end, second_end, is_joined}
use Rattle.nl_birth.specs.declared.way.Way.{Way}
use Rattle.nl_birth.specs.declared.way.Way.TheVariants.{With, To, From}
use Rattle.nl_birth.specs.inner.Partners.{other_end, is_alike, partner, with_some, collected}

-- ---- links by their serials

serial_of : Link → ℕ
serial_of l = l.serial

-- each link is found by its serial
abbrev pub IsFoundIn : Rest → Link → Type 0
IsFoundIn r l = link_of l.serial r ≡ Some l

pub all_found : (w : World) → IsWorld w → All (IsFoundIn w.rest) w.rest.links
all_found w h k d l =
    found_at (λ (x : Link). x.serial) w.rest.links ((get_or w.rest.links k d).serial) k (get_or w.rest.links k d) h.agents.links_ascend (slice_get-get_or w.rest.links k d l) refl

-- what lists of serials give lives
pub all_live : (test : Link → Bool) (w : World) → IsWorld w → All (λ serial. LinkLives serial w) (links_where test w.rest)
all_live test w h =
    All-map (λ serial. LinkLives serial w) (λ (l : Link). l.serial) (filter test w.rest.links)
    (All-filter test (λ l. LinkLives l.serial w) w.rest.links (All-weaker (IsFoundIn w.rest) (λ l. LinkLives l.serial w) (λ l e. ap is_some e) w.rest.links (all_found w h)))

-- ---- what is collected

some_before : (o : Option ℕ) (ns ms : List ℕ) → with_some o (ns ++ ms) ≡ with_some o ns ++ ms
some_before None ns ms = refl
some_before (Some n) ns ms = refl

pub collected_push : {X : Type 0} (give : X → Option ℕ) (xs : List X) (x : X) → collected give (xs ++ x ∷ []) ≡ collected give xs ++ with_some (give x) []
collected_push give [] x = refl
collected_push give (y ∷ ys) x = ap (with_some (give y)) (collected_push give ys x) ∙ some_before (give y) (collected give ys) (with_some (give x) [])

pub collected_more : {X : Type 0} (give : X → Option ℕ) (xs : List X) (i : ℕ) (x : X) (o : Option ℕ) → get_or xs i x ≡ x → i < length xs → give x ≡ o → collected give (take (i + 1) xs) ≡ collected give (take i xs) ++ with_some o []
collected_more give xs i x o at l e =
    ap (collected give) (take_more xs i x l ∙ ap (λ y. take i xs ++ y ∷ []) at) ∙ collected_push give (take i xs) x ∙ ap (λ p. collected give (take i xs) ++ with_some p []) e

-- by serials and by links
by_links : (give : Link → Option ℕ) (r : Rest) (ls : List Link) → All (IsFoundIn r) ls → collected (λ s. option_and_then give (link_of s r)) (map (λ (l : Link). l.serial) ls) ≡ collected give ls
by_links give r [] h = refl
by_links give r (l ∷ ls) h =
    ap₂ with_some (ap (option_and_then give) (All-head (IsFoundIn r) l ls h)) (by_links give r ls (All-tail (IsFoundIn r) l ls h))

-- ---- one link

-- the number is there
abbrev is_that : ℕ → Option ℕ → Bool
is_that n None = false
is_that n (Some m) = m == n

listed_some : (n : ℕ) (o : Option ℕ) (ns : List ℕ) → is_listed (with_some o ns) n ≡ (is_that n o || is_listed ns n)
listed_some n None ns = refl
listed_some n (Some m) ns = refl

with_ends : (c t a b : ℕ) → (((a == c) || (b == c)) && is_that t (cond (a == c) (Some b) (cond (b == c) (Some a) None)))
    ≡ (((a == min c t) && (b == max c t)) || (true && (a == max c t) && (b == min c t)))
with_ends c t a b = grind (arith, nat_tests)

to_ends : (c t a b : ℕ) → (((a == c) || (b == c)) && is_that t (cond (a == c) (Some b) None)) ≡ (((a == c) && (b == t)) || (false && (a == t) && (b == c)))
to_ends c t a b = grind (arith, nat_tests)

from_ends : (c t a b : ℕ) → (((a == c) || (b == c)) && is_that t (cond (b == c) (Some a) None)) ≡ (((a == t) && (b == c)) || (false && (a == c) && (b == t)))
from_ends c t a b = grind (arith, nat_tests)

no_and : (b : Bool) → (b && false) ≡ false
no_and true = refl
no_and false = refl

alike_step : (alike ended : Bool) (t : ℕ) (o : Option ℕ) (ends : Bool) → (ended && is_that t o) ≡ ends → (ended && is_that t (cond alike o None)) ≡ (alike && ends)
alike_step true ended t o ends h = h
alike_step false ended t o ends h = no_and ended

-- a link has the caller as an end and joins it with the target exactly where it joins the two
joins_by : (way : Way) (breed : BreedNumber) (caller t : ℕ) (l : Link) → (has_end caller l && is_that t (partner way breed caller l)) ≡ joins breed (has_direction way) (first_end way caller t) (second_end way caller t) l
joins_by With breed caller t l =
    alike_step (is_alike With breed l.breed l.directed) (has_end caller l) t (other_end With caller l.end1 l.end2) (((l.end1 == min caller t) && (l.end2 == max caller t)) || (true && (l.end1 == max caller t) && (l.end2 == min caller t)))
    (with_ends caller t l.end1 l.end2)
joins_by To breed caller t l =
    alike_step (is_alike To breed l.breed l.directed) (has_end caller l) t (other_end To caller l.end1 l.end2) (((l.end1 == caller) && (l.end2 == t)) || (false && (l.end1 == t) && (l.end2 == caller)))
    (to_ends caller t l.end1 l.end2)
joins_by From breed caller t l =
    alike_step (is_alike From breed l.breed l.directed) (has_end caller l) t (other_end From caller l.end1 l.end2) (((l.end1 == t) && (l.end2 == caller)) || (false && (l.end1 == caller) && (l.end2 == t)))
    (from_ends caller t l.end1 l.end2)

pub joined_by : (way : Way) (breed : BreedNumber) (caller t : ℕ) (ls : List Link)
    → is_listed (collected (partner way breed caller) (filter (has_end caller) ls)) t ≡ list_any (joins breed (has_direction way) (first_end way caller t) (second_end way caller t)) ls
joined_by way breed caller t [] = refl
joined_by way breed caller t (l ∷ ls) =
    let give = partner way breed caller in
    let test = joins breed (has_direction way) (first_end way caller t) (second_end way caller t) in
    let rest = joined_by way breed caller t ls in
    let one = joins_by way breed caller t l in
    cond_both (has_end caller l) (l ∷ filter (has_end caller) ls) (filter (has_end caller) ls) (λ kept. is_listed (collected give kept) t ≡ (test l || list_any test ls))
    (λ e. listed_some t (give l) (collected give (filter (has_end caller) ls)) ∙ ap₂ (λ x y. x || y) (sym (ap (λ b. b && is_that t (give l)) e) ∙ one) rest)
    (λ e. rest ∙ ap (λ b. b || list_any test ls) (sym (ap (λ b. b && is_that t (give l)) e) ∙ one))

-- what was collected of all links of the caller says who is joined with it
pub joined_of : (way : Way) (breed : BreedNumber) (caller : ℕ) (w : World) (serials others result : List ℕ) → IsWorld w → serials ≡ links_where (has_end caller) w.rest
    → others ≡ collected (λ s. option_and_then (partner way breed caller) (link_of s w.rest)) serials → ((n : ℕ) → is_listed result n ≡ is_listed others n) → (t : ℕ) → is_listed result t ≡ is_joined way breed caller w t
joined_of way breed caller w serials others result h are is same t =
    let found = All-filter (has_end caller) (IsFoundIn w.rest) w.rest.links (all_found w h) in
    same t
    ∙ ap (λ ns. is_listed ns t)
    (is ∙ ap (collected (λ s. option_and_then (partner way breed caller) (link_of s w.rest))) are ∙ by_links (partner way breed caller) w.rest (filter (has_end caller) w.rest.links) found)
    ∙ joined_by way breed caller t w.rest.links

-- ---- ascending, each once

pub in_order_listed : (numbers sorted kept : List ℕ) → ((x : ℕ) → Contains numbers x → Contains sorted x) → ((x : ℕ) → Contains sorted x → Contains numbers x) → kept ≡ dedup eqb sorted → (n : ℕ) → is_listed kept n ≡ is_listed numbers n
in_order_listed numbers sorted kept to back is n =
    same_from_decides {P = Contains numbers n} (is_listed kept n) (is_listed numbers n) (
      (λ e. back n (Contains-from_dedup eqb sorted n (subst (λ ns. Contains ns n) is (contains_listed kept n e)))),
      (λ h. listed_contains kept n (subst (λ ns. Contains ns n) (sym is) (Contains-dedup_nat sorted n (to n h)))),
    )
    ((λ e. contains_listed numbers n e), (λ h. listed_contains numbers n h))
  where
    contains_listed : (ns : List ℕ) (m : ℕ) → is_listed ns m ≡ true → Contains ns m
    contains_listed ns m e =
        let (k, y, inside, at, same) = Any-from_list_any (λ other. other == m) ns e in
        let eq = eqb-true y m same in
        (k, inside, subst (λ z. get_or ns k z ≡ z) eq at)

    listed_contains : (ns : List ℕ) (m : ℕ) → Contains ns m → is_listed ns m ≡ true
    listed_contains ns m h = list_any-from_Any (λ other. other == m) ns (h.0, m, h.1, h.2, eq-eqb m m refl)

-- ---- loops

pub all_taken : {X : Type 0} (now : List ℕ) (f : List X → List ℕ) (xs : List X) (i : ℕ) → now ≡ f (take i xs) → length xs ≤ i → now ≡ f xs
all_taken now f xs i e past = e ∙ ap f (take_all i xs past)

pub one_collected : {X : Type 0} (give : X → Option ℕ) (xs : List X) (i : ℕ) (x : X) (o : Option ℕ) (before now : List ℕ) → get_or xs i x ≡ x → i < length xs → o ≡ give x → before ≡ collected give (take i xs) → now ≡ before ++ with_some o []
    → now ≡ collected give (take (i + 1) xs)
one_collected give xs i x o before now at l e h is = is ∙ ap (λ ns. ns ++ with_some o []) h ∙ sym (collected_more give xs i x o at l (sym e))

pub none_collected : {X : Type 0} (give : X → Option ℕ) (xs : List X) (i : ℕ) (x : X) (before now : List ℕ) → get_or xs i x ≡ x → i < length xs → give x ≡ None → before ≡ collected give (take i xs) → now ≡ before
    → now ≡ collected give (take (i + 1) xs)
none_collected give xs i x before now at l e h is = is ∙ h ∙ no_more (collected give (take i xs)) ∙ sym (collected_more give xs i x None at l e)
  where
    no_more : (ns : List ℕ) → ns ≡ ns ++ []
    no_more [] = refl
    no_more (n ∷ ns) = ap (λ ms. n ∷ ms) (no_more ns)

not_some : {X : Type 0} (o : Option X) → ((x : X) → o ≡ Some x → ⊥) → o ≡ None
not_some None h = refl
not_some (Some x) h = absurd (h x refl)

pub none_given : {X : Type 0} (o given : Option X) → o ≡ given → ((x : X) → o ≡ Some x → ⊥) → given ≡ None
none_given o given e h = sym e ∙ not_some o h

pub items_alike : (v u : Vec ℕ Global) (xs : List ℕ) → v ≡ u → u.items ≡ xs → v.items ≡ xs
items_alike v u xs e h = ap (λ (x : Vec ℕ Global). x.items) e ∙ h

-- ---- kinds of links

-- one passes exactly where the count of those that pass isn't 0
pub any_counted : {X : Type 0} (test : X → Bool) (xs : List X) → nat_lt 0 (length (filter test xs)) ≡ list_any test xs
any_counted test [] = refl
any_counted test (x ∷ xs) = by (test x) (any_counted test xs)
  where
    by : (b : Bool) → nat_lt 0 (length (filter test xs)) ≡ list_any test xs → nat_lt 0 (length (if b then x ∷ filter test xs else filter test xs)) ≡ (b || list_any test xs)
    by true later = le-leb 1 (suc (length (filter test xs))) (omega arith)
    by false later = later
