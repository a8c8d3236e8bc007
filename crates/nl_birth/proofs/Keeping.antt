-- Births and the making of links keep all that there was.
use Rattle.std.specs.Prelude.{◌≡◌, ℕ, zero, suc, ◌+◌, ◌∷◌, List, [], ◌++◌, map, length, take, Some, Result, Ok, Err, nat_le}
use Rattle.std.specs.List.{range_with_len}
use Rattle.std.proofs.Common.{arith, ap, ap₂, ◌∙◌, sym, refl, subst}
use Rattle.std.proofs.lemmas.Bool.{cond_both}
use Rattle.std.proofs.lemmas.List.{append-nil, append_assoc, map-append, length-append, length-map}
use Rattle.std.proofs.lemmas.List.FromFn.{length-range_with_len}
use Rattle.nl_value.specs.Nouns.{Serials}
use Rattle.nl_grid.specs.declared.point.Point.{Point}
use Rattle.nl_agents_layout.specs.Nouns.{BreedNumber}
use Rattle.nl_agents.specs.World.{World}
use Rattle.nl_agents.specs.Changes.{is_turtle, turtle_of, is_link, link_of}
use Rattle.nl_agents.specs.Standing.{IsWorld}
use Rattle.nl_agents.specs.declared.agents.Turtle.{Turtle}
use Rattle.nl_agents.specs.declared.agents.Link.{Link}
use Rattle.nl_agents.proofs.Finding.{found_before}
use Rattle.nl_birth.specs.declared.way.Way.{Way}
use Rattle.nl_birth.specs.declared.failing.BirthFail.{BirthFail}
use Rattle.nl_birth.specs.declared.failing.BirthFail.TheVariants.{TooMany, LinkFault, NoMemory}
use Rattle.nl_birth.specs.Births.{Scene, turtle_room, turtles_born, drawn_births, ordered_births, hatchings, origin}
use Rattle.nl_birth.specs.Links.{first_ties, link_room, links_made}
use Rattle.nl_birth.specs.Outcomes.{Made, Filled, Refused, outcome_of, IsOutcome}
use Rattle.nl_birth.specs.Keeping.{Keeps}
use Rattle.nl_birth.specs.Laws.{HasMoreTurtles, HasMoreLinks, IsOfAt}
use Rattle.nl_birth.proofs.Appended.{drawn_append, ordered_append, hatched_append}
use Rattle.nl_birth.proofs.Tied.{links_append}

-- ---- of what was appended

none_given : (n : ℕ) → n ≡ n + 0
none_given n = omega arith

pub all_stay : (w : World) → Keeps w w
all_stay w =
    let r = w.rest in
    let make : List Turtle → ℕ → List Link → ℕ → World = λ ts n ls m. record w { rest = record r { turtles = ts; turtles_given = n; links = ls; links_given = m } } in
    record {
      turtles = [];
      links = [];
      turtle_serials = refl;
      link_serials = refl;
      rest = ap₂ (λ ts n. make ts n r.links r.links_given) (sym (append-nil r.turtles)) (none_given r.turtles_given)
          ∙ ap₂ (make (r.turtles ++ []) (r.turtles_given + 0)) (sym (append-nil r.links)) (none_given r.links_given);
    }

pub turtles_keep : (IsNew : Turtle → Type 0) (w now : World) (k : ℕ) → HasMoreTurtles IsNew w now k → Keeps w now
turtles_keep IsNew w now k h =
    let given = w.rest.turtles_given in
    let many : k ≡ length h.new = sym (length-range_with_len given k) ∙ ap length (sym h.serials) ∙ length-map h.new (λ (t : Turtle). t.serial) in
    let make : ℕ → List Link → ℕ → World = λ n ls m. record w { rest = record w.rest { turtles = w.rest.turtles ++ h.new; turtles_given = given + n; links = ls; links_given = m } } in
    record {
      turtles = h.new;
      links = [];
      turtle_serials = h.serials ∙ ap (range_with_len given) many;
      link_serials = refl;
      rest = h.rest ∙ ap (λ n. make n w.rest.links w.rest.links_given) many ∙ ap₂ (make (length h.new)) (sym (append-nil w.rest.links)) (none_given w.rest.links_given);
    }

pub links_keep : (way : Way) (breed : BreedNumber) (caller : ℕ) (ts : Serials) (w now : World) → HasMoreLinks way breed caller ts w now → Keeps w now
links_keep way breed caller ts w now h =
    let given = w.rest.links_given in
    let many : length ts ≡ length h.new = sym (length-range_with_len given (length ts)) ∙ ap length (sym h.serials) ∙ length-map h.new (λ (l : Link). l.serial) in
    let make : ℕ → List Turtle → ℕ → World = λ n us m. record w { rest = record w.rest { turtles = us; turtles_given = m; links = w.rest.links ++ h.new; links_given = given + n } } in
    record {
      turtles = [];
      links = h.new;
      turtle_serials = refl;
      link_serials = h.serials ∙ ap (range_with_len given) many;
      rest = h.rest ∙ ap (λ n. make n w.rest.turtles w.rest.turtles_given) many ∙ ap₂ (make (length h.new)) (sym (append-nil w.rest.turtles)) (none_given w.rest.turtles_given);
    }

-- ---- of what calls answer

made_is : {X : Type 0} (after : ℕ → X) (room first count : ℕ) (made : Serials) (now : X) → outcome_of after room first count ≡ Made made now → after count ≡ now
made_is after room first count made now e =
    cond_both (nat_le count room) (Made (range_with_len first count) (after count)) (Filled (after room)) (λ o. o ≡ Made made now → after count ≡ now) (λ _ q. cc) (λ _ q. cc) e

filled_is : {X : Type 0} (after : ℕ → X) (room first count : ℕ) (now : X) → outcome_of after room first count ≡ Filled now → after room ≡ now
filled_is after room first count now e =
    cond_both (nat_le count room) (Made (range_with_len first count) (after count)) (Filled (after room)) (λ o. o ≡ Filled now → after room ≡ now) (λ _ q. cc) (λ _ q. cc) e

never_refused : {X : Type 0} (after : ℕ → X) (room first count : ℕ) (now : X) → outcome_of after room first count ≡ Refused now → ⊥
never_refused after room first count now e =
    cond_both (nat_le count room) (Made (range_with_len first count) (after count)) (Filled (after room)) (λ o. o ≡ Refused now → ⊥) (λ _ q. cc) (λ _ q. cc) e

-- what is true of each number of births is true after the call
module _ {X : Type 0} (P : X → Type 0) (after : ℕ → X) (all : (k : ℕ) → P (after k)) (now : X) where
  pub outcome_has : (room first count most : ℕ) (r : Result Serials BirthFail) → IsOutcome (outcome_of after room first count) after most r now → P now
  outcome_has room first count most (Ok made) h = subst P (made_is after room first count made now h) (all count)
  outcome_has room first count most (Err TooMany) h = subst P (filled_is after room first count now h) (all room)
  outcome_has room first count most (Err LinkFault) h = absurd (never_refused after room first count now h)
  outcome_has room first count most (Err NoMemory) h = subst P (sym h.leaves) (all h.made)

pub drawn_keep : (breed : BreedNumber) (at : Point) (s now : Scene) (count most : ℕ) (r : Result Serials BirthFail) → IsWorld s.world
    → IsOutcome (turtles_born (drawn_births breed at s) s.world count) (drawn_births breed at s) most r now → Keeps s.world now.world
drawn_keep breed at s now count most r is h =
    outcome_has (λ x. Keeps s.world x.world) (drawn_births breed at s) (λ k. turtles_keep (IsOfAt breed at) s.world (drawn_births breed at s k).world k (drawn_append breed at s k is)) now
    (turtle_room s.world) s.world.rest.turtles_given count most r h

pub ordered_keep : (breed : BreedNumber) (many : ℕ) (w now : World) (count most : ℕ) (r : Result Serials BirthFail) → IsWorld w
    → IsOutcome (turtles_born (ordered_births breed many w) w count) (ordered_births breed many w) most r now → Keeps w now
ordered_keep breed many w now count most r is h =
    outcome_has (Keeps w) (ordered_births breed many w) (λ k. turtles_keep (IsOfAt breed origin) w (ordered_births breed many w k) k (ordered_append breed many w k is)) now
    (turtle_room w) w.rest.turtles_given count most r h

pub hatched_keep : (breed : BreedNumber) (parent : ℕ) (at : Point) (w now : World) (count most : ℕ) (r : Result Serials BirthFail)
    → IsOutcome (turtles_born (hatchings breed parent at w) w count) (hatchings breed parent at w) most r now → Keeps w now
hatched_keep breed parent at w now count most r h =
    outcome_has (Keeps w) (hatchings breed parent at w) (λ k. turtles_keep (IsOfAt breed at) w (hatchings breed parent at w k) k (hatched_append breed parent at w k)) now
    (turtle_room w) w.rest.turtles_given count most r h

pub tied_keep : (way : Way) (breed : BreedNumber) (caller : ℕ) (ts : Serials) (w now : World) (count most : ℕ) (r : Result Serials BirthFail)
    → IsOutcome (links_made (first_ties way breed caller ts w) w count) (first_ties way breed caller ts w) most r now → Keeps w now
tied_keep way breed caller ts w now count most r h =
    outcome_has (Keeps w) (first_ties way breed caller ts w) (λ k. links_keep way breed caller (take k ts) w (first_ties way breed caller ts w k) (links_append way breed caller (take k ts) w)) now
    (link_room w) w.rest.links_given count most r h

-- ---- laws

pub turtle_lives_on : (serial : ℕ) (t : Turtle) (w now : World) → Keeps w now → turtle_of serial w.rest ≡ Some t → turtle_of serial now.rest ≡ Some t
turtle_lives_on serial t w now h e = ap (λ x. turtle_of serial x.rest) h.rest ∙ found_before (is_turtle serial) w.rest.turtles h.turtles t e

pub link_lives_on : (serial : ℕ) (l : Link) (w now : World) → Keeps w now → link_of serial w.rest ≡ Some l → link_of serial now.rest ≡ Some l
link_lives_on serial l w now h e = ap (λ x. link_of serial x.rest) h.rest ∙ found_before (is_link serial) w.rest.links h.links l e

range_append : (a m n : ℕ) → range_with_len a (m + n) ≡ range_with_len a m ++ range_with_len (a + m) n
range_append a zero n =
    let none : zero + n ≡ n = omega arith in
    let same : a ≡ a + zero = omega arith in
    ap (range_with_len a) none ∙ ap (λ b. range_with_len b n) same
range_append a (suc m) n =
    let one : suc m + n ≡ suc (m + n) = omega arith in
    let next : (a + 1) + m ≡ a + suc m = omega arith in
    ap (range_with_len a) one ∙ ap (λ ns. a ∷ ns) (range_append (a + 1) m n ∙ ap (λ b. range_with_len (a + 1) m ++ range_with_len b n) next)

serials_go_on : {X : Type 0} (serial : X → ℕ) (given : ℕ) (xs ys : List X) → map serial xs ≡ range_with_len given (length xs) → map serial ys ≡ range_with_len (given + length xs) (length ys)
    → map serial (xs ++ ys) ≡ range_with_len given (length (xs ++ ys))
serials_go_on serial given xs ys p q =
    map-append serial xs ys ∙ ap₂ (λ m n. m ++ n) p q ∙ sym (range_append given (length xs) (length ys)) ∙ ap (range_with_len given) (sym (length-append xs ys))

given_go_on : {X : Type 0} (given : ℕ) (xs ys : List X) → (given + length xs) + length ys ≡ given + length (xs ++ ys)
given_go_on given xs ys = let long = length-append xs ys in omega (arith, long)

pub keeping_goes_on : (w now later : World) → Keeps w now → Keeps now later → Keeps w later
keeping_goes_on w now later a b =
    let r = w.rest in
    let c = subst (λ x. Keeps x later) a.rest b in
    let make : List Turtle → ℕ → List Link → ℕ → World = λ ts n ls m. record w { rest = record r { turtles = ts; turtles_given = n; links = ls; links_given = m } } in
    let links = (r.links ++ a.links) ++ c.links in
    let links_given = (r.links_given + length a.links) + length c.links in
    record {
      turtles = a.turtles ++ c.turtles;
      links = a.links ++ c.links;
      turtle_serials = serials_go_on (λ (t : Turtle). t.serial) r.turtles_given a.turtles c.turtles a.turtle_serials c.turtle_serials;
      link_serials = serials_go_on (λ (l : Link). l.serial) r.links_given a.links c.links a.link_serials c.link_serials;
      rest = c.rest
          ∙ ap₂ (λ ts n. make ts n links links_given) (append_assoc r.turtles a.turtles c.turtles) (given_go_on r.turtles_given a.turtles c.turtles)
          ∙ ap₂ (make (r.turtles ++ (a.turtles ++ c.turtles)) (r.turtles_given + length (a.turtles ++ c.turtles))) (append_assoc r.links a.links c.links) (given_go_on r.links_given a.links c.links);
    }
