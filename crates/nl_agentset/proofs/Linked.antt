-- The links of a turtle, as they are found among those that have it as an end.
use Rattle.std.specs.Prelude.{◌≡◌, ℕ, ◌==◌, ◌&&◌, ◌||◌, not, Bool, true, false, if◌then◌else◌, List, [], ◌∷◌, filter, map, find, Option, Some, None, option_map, refl}
use Rattle.std.proofs.Common.{ap, sym, ◌∙◌}
use Rattle.nl_agents_layout.specs.Nouns.{BreedNumber}
use Rattle.nl_agents.specs.World.{Rest, World}
use Rattle.nl_agents.specs.Changes.{link_of, has_end}
use Rattle.nl_agents.specs.Members.{links_where}
use Rattle.nl_agents.specs.Standing.{IsWorld}
use Rattle.nl_agents.specs.declared.agents.Turtle as the_turtle
use Rattle.nl_agents.specs.declared.agents.Link as the_link
use Rattle.nl_agentset_query.specs.declared.words.Side.{Side}
use Rattle.nl_agentset.specs.Links.{is_link_at, other_end_of, is_link_to, links_at}
use Rattle.nl_agentset_query.specs.Agents.{link_passes}
use Rattle.nl_agentset.specs.Sets.{is_between, link_between}
use Rattle.nl_agentset.proofs.Found.{links_kept, same_links}

twice : (a b c : Bool) → (a && (a && b && c)) ≡ (a && b && c)
twice true b c = refl
twice false b c = refl

pub links_are : (w : World) (side : Side) (breed : Option BreedNumber) (turtle : ℕ) → IsWorld w
    → filter (λ z. link_passes (is_link_at side breed turtle) (link_of z w.rest)) (links_where (has_end turtle) w.rest) ≡ links_at w.rest side breed turtle
links_are w side breed turtle world =
    let serial : the_link.Link → ℕ = λ l. l.serial in
    links_kept w (has_end turtle) (is_link_at side breed turtle) world
    ∙ ap (map serial) (same_links (λ l. has_end turtle l && is_link_at side breed turtle l) (is_link_at side breed turtle) w.rest.links (λ l. twice (has_end turtle l) _ _))

pub links_lead_to : (w : World) (side : Side) (breed : Option BreedNumber) (turtle other : ℕ) → IsWorld w
    → filter (λ z. link_passes (λ l. other_end_of turtle l == other) (link_of z w.rest)) (links_at w.rest side breed turtle) ≡ links_where (is_link_to side breed turtle other) w.rest
links_lead_to w side breed turtle other world = links_kept w (is_link_at side breed turtle) (λ l. other_end_of turtle l == other) world

-- ---- the first that passes

abbrev head_of : {X : Type 0} → List X → Option X
head_of [] = None
head_of (x ∷ xs) = Some x

head_number : (q : ℕ → Bool) (zs : List ℕ) → find q zs ≡ head_of (filter q zs)
head_number q [] = refl
head_number q (z ∷ zs) = by (q z) (head_number q zs)
  where
    by : (b : Bool) → find q zs ≡ head_of (filter q zs) → (if b then Some z else find q zs) ≡ head_of (if b then z ∷ filter q zs else filter q zs)
    by true later = refl
    by false later = later

head_link : (test : the_link.Link → Bool) (ls : List the_link.Link) → find test ls ≡ head_of (filter test ls)
head_link test [] = refl
head_link test (l ∷ ls) = by (test l) (head_link test ls)
  where
    by : (b : Bool) → find test ls ≡ head_of (filter test ls) → (if b then Some l else find test ls) ≡ head_of (if b then l ∷ filter test ls else filter test ls)
    by true later = refl
    by false later = later

head_mapped : (ls : List the_link.Link) → head_of (map (λ (l : the_link.Link). l.serial) ls) ≡ option_map (λ (l : the_link.Link). l.serial) (head_of ls)
head_mapped [] = refl
head_mapped (l ∷ ls) = refl

-- the first link that passes both tests, as it is found among the serials of those that pass one
pub first_is : (w : World) (p test : the_link.Link → Bool) → IsWorld w → ((l : the_link.Link) → test l ≡ true → p l ≡ true)
    → find (λ z. link_passes test (link_of z w.rest)) (links_where p w.rest) ≡ option_map (λ (l : the_link.Link). l.serial) (find test w.rest.links)
first_is w p test world passes =
    let serial : the_link.Link → ℕ = λ l. l.serial in
    head_number (λ z. link_passes test (link_of z w.rest)) (links_where p w.rest)
    ∙ ap head_of (links_kept w p test world)
    ∙ head_mapped (filter (λ l. p l && test l) w.rest.links)
    ∙ ap (λ ls. option_map serial (head_of ls)) (same_links (λ l. p l && test l) test w.rest.links (λ l. implied (p l) (test l) (passes l)))
    ∙ ap (option_map serial) (sym (head_link test w.rest.links))
  where
    implied : (a b : Bool) → (b ≡ true → a ≡ true) → (a && b) ≡ b
    implied true b h = refl
    implied false true h = h refl
    implied false false h = refl

-- a link between two turtles has the first as an end
pub between_has_end : (breed : BreedNumber) (first second : ℕ) (l : the_link.Link) → is_between breed first second l ≡ true → has_end first l ≡ true
between_has_end breed first second l is = by (l.breed == breed) (l.end1 == first) (l.end2 == second) (not l.directed) (l.end1 == second) (l.end2 == first) is
  where
    by : (a b c d e f : Bool) → (a && ((b && c) || (d && e && f))) ≡ true → (b || f) ≡ true
    by a true c d e f h = refl
    by a false c d e true h = refl
    by true false c true true false h = h
    by true false c true false false h = h
    by true false c false e false h = h
    by false false c d e false h = absurd (cc)

named_both : (r : Rest) (breed : BreedNumber) (o u : Option the_turtle.Turtle) (first second : ℕ)
    → Some first ≡ option_map (λ (t : the_turtle.Turtle). t.serial) o → Some second ≡ option_map (λ (t : the_turtle.Turtle). t.serial) u
    → find (is_between breed first second) r.links ≡ link_between r breed o u
named_both r breed None u first second a b = cc
named_both r breed (Some t) None first second a b = cc
named_both r breed (Some t) (Some s) first second a b =
    let one : first ≡ t.serial = cc in
    let two : second ≡ s.serial = cc in
    ap (λ x. find (is_between breed x second) r.links) one ∙ ap (λ x. find (is_between breed t.serial x) r.links) two

-- the link that is found among those of the first turtle is the one between the two
pub between_is : (w : World) (breed : BreedNumber) (o u : Option the_turtle.Turtle) (first second : ℕ) → IsWorld w
    → Some first ≡ option_map (λ (t : the_turtle.Turtle). t.serial) o → Some second ≡ option_map (λ (t : the_turtle.Turtle). t.serial) u
    → find (λ z. link_passes (is_between breed first second) (link_of z w.rest)) (links_where (has_end first) w.rest) ≡ option_map (λ (l : the_link.Link). l.serial) (link_between w.rest breed o u)
between_is w breed o u first second world a b =
    first_is w (has_end first) (is_between breed first second) world (between_has_end breed first second)
    ∙ ap (option_map (λ (l : the_link.Link). l.serial)) (named_both w.rest breed o u first second a b)

none_first : (r : Rest) (breed : BreedNumber) (o u : Option the_turtle.Turtle) → None ≡ option_map (λ (t : the_turtle.Turtle). t.serial) o → link_between r breed o u ≡ None
none_first r breed None u is = refl
none_first r breed (Some t) u is = cc

none_second : (r : Rest) (breed : BreedNumber) (o u : Option the_turtle.Turtle) → None ≡ option_map (λ (t : the_turtle.Turtle). t.serial) u → link_between r breed o u ≡ None
none_second r breed None u is = refl
none_second r breed (Some t) None is = refl
none_second r breed (Some t) (Some s) is = cc

pub no_first : (r : Rest) (breed : BreedNumber) (o u : Option the_turtle.Turtle) → None ≡ option_map (λ (t : the_turtle.Turtle). t.serial) o → None ≡ option_map (λ (l : the_link.Link). l.serial) (link_between r breed o u)
no_first r breed o u is = ap (option_map (λ (l : the_link.Link). l.serial)) (sym (none_first r breed o u is))

pub no_second : (r : Rest) (breed : BreedNumber) (o u : Option the_turtle.Turtle) → None ≡ option_map (λ (t : the_turtle.Turtle). t.serial) u → None ≡ option_map (λ (l : the_link.Link). l.serial) (link_between r breed o u)
no_second r breed o u is = ap (option_map (λ (l : the_link.Link). l.serial)) (sym (none_second r breed o u is))
