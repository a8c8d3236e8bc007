-- Agents that are made again one by one.
use Rattle.std.specs.Prelude.{◌≡◌, ℕ, ◌+◌, ◌<◌, ◌≤◌, Bool, List, [], ◌∷◌, ◌++◌, find, length, take, slice_get, Option, Some, None, IsSome, is_some, option_map}
use Rattle.std.proofs.Common.{arith, ap, ap₂, ◌∙◌, sym, refl}
use Rattle.std.proofs.lemmas.List.{take_all, length-take-le}
use Rattle.std.proofs.lemmas.Option.{same_Some}
use Rattle.nl_grid.specs.declared.point.Point.{Point}
use Rattle.nl_agents.specs.Nouns.{Vars}
use Rattle.nl_agents.specs.Changes.{is_link, is_turtle}
use Rattle.nl_agents.specs.declared.agents.Link.{Link}
use Rattle.nl_agents.specs.declared.agents.Turtle.{Turtle}
use Rattle.nl_agents.proofs.Finding.{found_all, found_passes}
use Rattle.std.proofs.lemmas.Bool.{eqb-true}
use Rattle.nl_store_files.specs.Agents.{link_serial, turtle_serial, Agents}
use Rattle.nl_store.specs.Sound.{AreSound, IsLinkAmong, IsTurtleAmong}
use Rattle.nl_store.proofs.Lists.{greater, one-more-taken, Stands}

-- ---- one turtle, and one link

module _ (turtles : List Turtle) (serial breed : ℕ) (at : Point) (vars : Vars) (breeds : option_map (λ (t : Turtle). t.breed) (find (is_turtle serial) turtles) ≡ Some breed)
    (points : option_map (λ (t : Turtle). t.at) (find (is_turtle serial) turtles) ≡ Some at) (keeps : option_map (λ (t : Turtle). t.vars) (find (is_turtle serial) turtles) ≡ Some vars) where
  abbrev again : Turtle
  again = record { serial = serial; breed = breed; at = at; vars = vars }

  same-turtle : (t : Turtle) → find (is_turtle serial) turtles ≡ Some t → again ≡ t
  same-turtle t found =
      let s : t.serial ≡ serial = eqb-true t.serial serial (found_passes (is_turtle serial) turtles t found) in
      let b : t.breed ≡ breed = same_Some t.breed breed (sym (ap (λ o. option_map (λ (x : Turtle). x.breed) o) found) ∙ breeds) in
      let p : t.at ≡ at = same_Some t.at at (sym (ap (λ o. option_map (λ (x : Turtle). x.at) o) found) ∙ points) in
      let v : t.vars ≡ vars = same_Some t.vars vars (sym (ap (λ o. option_map (λ (x : Turtle). x.vars) o) found) ∙ keeps) in
      sym
      (ap (λ (n : ℕ). record t { serial = n }) s
      ∙ ap (λ (n : ℕ). record t { serial = serial; breed = n }) b
      ∙ ap (λ (x : Point). record t { serial = serial; breed = breed; at = x }) p
      ∙ ap (λ (vs : Vars). record t { serial = serial; breed = breed; at = at; vars = vs }) v)

  pub turtle-again : (old skipped new : Agents) → skipped ≡ record old { turtles_given = serial }
      → new ≡ record skipped {
        turtles = skipped.turtles ++ (record { serial = skipped.turtles_given; breed = breed; at = at; vars = vars }) ∷ [];
        turtles_given = skipped.turtles_given + 1;
      } → (t : Turtle) → find (is_turtle serial) turtles ≡ Some t → new ≡ record old { turtles = old.turtles ++ t ∷ []; turtles_given = serial + 1 }
  turtle-again old skipped new skip e t found =
      e
      ∙ ap (λ (a : Agents). record a { turtles = a.turtles ++ (record { serial = a.turtles_given; breed = breed; at = at; vars = vars }) ∷ []; turtles_given = a.turtles_given + 1 }) skip
      ∙ ap (λ (x : Turtle). record old { turtles = old.turtles ++ x ∷ []; turtles_given = serial + 1 }) (same-turtle t found)

-- what a turtle keeps, by a copy of it
pub turtle-keeps : (turtles : List Turtle) (serial : ℕ) (kept vars : Vars) → option_map (λ (t : Turtle). t.vars) (find (is_turtle serial) turtles) ≡ Some kept → vars ≡ kept
    → option_map (λ (t : Turtle). t.vars) (find (is_turtle serial) turtles) ≡ Some vars
turtle-keeps turtles serial kept vars e same = e ∙ ap (λ (vs : Vars). Some vs) (sym same)

-- its breed has a chain
pub among-breed : (from : Agents) (serial breed breeds : ℕ) → option_map (λ (t : Turtle). t.breed) (find (is_turtle serial) from.turtles) ≡ Some breed → breeds ≡ from.breeds
    → ((t : Turtle) → find (is_turtle serial) from.turtles ≡ Some t → IsTurtleAmong from t) → breed < breeds
among-breed from serial breed breeds e same among = go (find (is_turtle serial) from.turtles) refl e
  where
    go : (o : Option Turtle) → find (is_turtle serial) from.turtles ≡ o → option_map (λ (t : Turtle). t.breed) o ≡ Some breed → breed < breeds
    go None f h = absurd (cc)
    go (Some t) f h = let b = same_Some t.breed breed h in let l = among t f in omega (arith, b, same, l.breed)

module _ (links : List Link) (serial breed : ℕ) (directed : Bool) (end1 end2 : ℕ) (vars : Vars) (breeds : option_map (λ (l : Link). l.breed) (find (is_link serial) links) ≡ Some breed)
    (kinds : option_map (λ (l : Link). l.directed) (find (is_link serial) links) ≡ Some directed) (firsts : option_map (λ (l : Link). l.end1) (find (is_link serial) links) ≡ Some end1)
    (seconds : option_map (λ (l : Link). l.end2) (find (is_link serial) links) ≡ Some end2) (keeps : option_map (λ (l : Link). l.vars) (find (is_link serial) links) ≡ Some vars) where
  abbrev linked : Link
  linked = record { serial = serial; breed = breed; directed = directed; end1 = end1; end2 = end2; vars = vars }

  same-link : (l : Link) → find (is_link serial) links ≡ Some l → linked ≡ l
  same-link l found =
      let s : l.serial ≡ serial = eqb-true l.serial serial (found_passes (is_link serial) links l found) in
      let b : l.breed ≡ breed = same_Some l.breed breed (sym (ap (λ o. option_map (λ (x : Link). x.breed) o) found) ∙ breeds) in
      let d : l.directed ≡ directed = same_Some l.directed directed (sym (ap (λ o. option_map (λ (x : Link). x.directed) o) found) ∙ kinds) in
      let f : l.end1 ≡ end1 = same_Some l.end1 end1 (sym (ap (λ o. option_map (λ (x : Link). x.end1) o) found) ∙ firsts) in
      let z : l.end2 ≡ end2 = same_Some l.end2 end2 (sym (ap (λ o. option_map (λ (x : Link). x.end2) o) found) ∙ seconds) in
      let v : l.vars ≡ vars = same_Some l.vars vars (sym (ap (λ o. option_map (λ (x : Link). x.vars) o) found) ∙ keeps) in
      sym
      (ap (λ (n : ℕ). record l { serial = n }) s
      ∙ ap (λ (n : ℕ). record l { serial = serial; breed = n }) b
      ∙ ap (λ (x : Bool). record l { serial = serial; breed = breed; directed = x }) d
      ∙ ap (λ (n : ℕ). record l { serial = serial; breed = breed; directed = directed; end1 = n }) f
      ∙ ap (λ (n : ℕ). record l { serial = serial; breed = breed; directed = directed; end1 = end1; end2 = n }) z
      ∙ ap (λ (vs : Vars). record l { serial = serial; breed = breed; directed = directed; end1 = end1; end2 = end2; vars = vs }) v)

  pub link-again : (old skipped new : Agents) → skipped ≡ record old { links_given = serial }
      → new ≡ record skipped {
        links = skipped.links ++ (record { serial = skipped.links_given; breed = breed; directed = directed; end1 = end1; end2 = end2; vars = vars }) ∷ [];
        links_given = skipped.links_given + 1;
      } → (l : Link) → find (is_link serial) links ≡ Some l → new ≡ record old { links = old.links ++ l ∷ []; links_given = serial + 1 }
  link-again old skipped new skip e l found =
      e
      ∙ ap (λ (a : Agents). record a {
        links = a.links ++ (record { serial = a.links_given; breed = breed; directed = directed; end1 = end1; end2 = end2; vars = vars }) ∷ [];
        links_given = a.links_given + 1;
      }) skip
      ∙ ap (λ (x : Link). record old { links = old.links ++ x ∷ []; links_given = serial + 1 }) (same-link l found)

-- what a link keeps, by a copy of it
pub link-keeps : (links : List Link) (serial : ℕ) (kept vars : Vars) → option_map (λ (l : Link). l.vars) (find (is_link serial) links) ≡ Some kept → vars ≡ kept
    → option_map (λ (l : Link). l.vars) (find (is_link serial) links) ≡ Some vars
link-keeps links serial kept vars e same = e ∙ ap (λ (vs : Vars). Some vs) (sym same)

-- ---- one after another

-- the first i turtles are made, and no more
pub record TurtlesTaken (from into : Agents) (i : ℕ) : Type 0 where
  pub are : into ≡ record from { turtles = take i from.turtles; links = []; turtles_given = into.turtles_given; links_given = 0 }
  pub given : into.turtles_given ≤ from.turtles_given
  pub next : (j : ℕ) (t : Turtle) → i ≤ j → slice_get from.turtles j ≡ Some t → into.turtles_given ≤ t.serial

-- the first i links are made, and no more
pub record LinksTaken (from into : Agents) (i : ℕ) : Type 0 where
  pub are : into ≡ record from { links = take i from.links; links_given = into.links_given }
  pub given : into.links_given ≤ from.links_given
  pub next : (j : ℕ) (l : Link) → i ≤ j → slice_get from.links j ≡ Some l → into.links_given ≤ l.serial

module _ (from : Agents) (sound : AreSound from) where
  pub no-turtles-taken : (into : Agents) → into ≡ record from { turtles = []; links = []; turtles_given = 0; links_given = 0 } → TurtlesTaken from into 0
  no-turtles-taken into e =
      let none : into.turtles_given ≡ 0 = ap (λ (a : Agents). a.turtles_given) e in
      record {
        are = e ∙ ap (λ (n : ℕ). record from { turtles = []; links = []; turtles_given = n; links_given = 0 }) (sym none);
        given = omega (arith, none);
        next = λ j t le h. omega (arith, none);
      }

  pub no-links-taken : (into : Agents) → into ≡ record from { links = []; links_given = 0 } → LinksTaken from into 0
  no-links-taken into e =
      let none : into.links_given ≡ 0 = ap (λ (a : Agents). a.links_given) e in
      record {
        are = e ∙ ap (λ (n : ℕ). record from { links = []; links_given = n }) (sym none);
        given = omega (arith, none);
        next = λ j l le h. omega (arith, none);
      }

  pub turtle-among : (serial : ℕ) (t : Turtle) → find (is_turtle serial) from.turtles ≡ Some t → IsTurtleAmong from t
  turtle-among serial t found = found_all (is_turtle serial) (IsTurtleAmong from) from.turtles t sound.turtles found

  pub link-among : (serial : ℕ) (l : Link) → find (is_link serial) from.links ≡ Some l → IsLinkAmong from l
  link-among serial l found = found_all (is_link serial) (IsLinkAmong from) from.links l sound.links found

  module _ (into : Agents) (i serial : ℕ) (taken : TurtlesTaken from into i) (s : Stands turtle_serial from.turtles i serial) where
    pub few-turtles-taken : length into.turtles < 200_000
    few-turtles-taken =
        let many = ap (λ (a : Agents). length a.turtles) taken.are in
        omega (arith, many, length-take-le i from.turtles (let l = s.inside in omega (arith, l)), s.inside, sound.few_turtles)

    pub next-turtle : into.turtles_given ≤ serial
    next-turtle = omega (arith, taken.next i s.item (omega arith) s.there, s.key_is)

    pub turtle-was-given : serial < 9_000_000_000_000
    turtle-was-given = let t = turtle-among serial s.item s.found in omega (arith, t.given, s.key_is, sound.turtles_given)

    pub turtle-found : IsSome (find (is_turtle serial) from.turtles)
    turtle-found = ap is_some s.found

    pub turtle-taken : (after : Agents) → ((t : Turtle) → find (is_turtle serial) from.turtles ≡ Some t → after ≡ record into { turtles = into.turtles ++ t ∷ []; turtles_given = serial + 1 })
        → TurtlesTaken from after (i + 1)
    turtle-taken after more =
        let e = more s.item s.found in
        let many : after.turtles_given ≡ serial + 1 = ap (λ (a : Agents). a.turtles_given) e in
        let t = turtle-among serial s.item s.found in
        record {
          are = e
              ∙ ap (λ (a : Agents). record a { turtles = a.turtles ++ s.item ∷ []; turtles_given = serial + 1 }) taken.are
              ∙ ap₂ (λ (ts : List Turtle) (n : ℕ). record from { turtles = ts; links = []; turtles_given = n; links_given = 0 })
              (sym (one-more-taken turtle_serial from.turtles sound.turtles_ascend i serial s)) (sym many);
          given = omega (arith, many, t.given, s.key_is);
          next = λ j x le h. omega (arith, many, greater turtle_serial from.turtles sound.turtles_ascend i j serial s x le h);
        }

  module _ (into : Agents) (i serial : ℕ) (taken : LinksTaken from into i) (s : Stands link_serial from.links i serial) where
    pub few-links-taken : length into.links < 400_000
    few-links-taken =
        let many = ap (λ (a : Agents). length a.links) taken.are in
        omega (arith, many, length-take-le i from.links (let l = s.inside in omega (arith, l)), s.inside, sound.few_links)

    pub next-link : into.links_given ≤ serial
    next-link = omega (arith, taken.next i s.item (omega arith) s.there, s.key_is)

    pub link-was-given : serial < 9_000_000_000_000
    link-was-given = let l = link-among serial s.item s.found in omega (arith, l.given, s.key_is, sound.links_given)

    pub link-found : IsSome (find (is_link serial) from.links)
    link-found = ap is_some s.found

    pub link-taken : (after : Agents) → ((l : Link) → find (is_link serial) from.links ≡ Some l → after ≡ record into { links = into.links ++ l ∷ []; links_given = serial + 1 })
        → LinksTaken from after (i + 1)
    link-taken after more =
        let e = more s.item s.found in
        let many : after.links_given ≡ serial + 1 = ap (λ (a : Agents). a.links_given) e in
        let l = link-among serial s.item s.found in
        record {
          are = e
              ∙ ap (λ (a : Agents). record a { links = a.links ++ s.item ∷ []; links_given = serial + 1 }) taken.are
              ∙ ap₂ (λ (ls : List Link) (n : ℕ). record from { links = ls; links_given = n })
              (sym (one-more-taken link_serial from.links sound.links_ascend i serial s)) (sym many);
          given = omega (arith, many, l.given, s.key_is);
          next = λ j x le h. omega (arith, many, greater link_serial from.links sound.links_ascend i j serial s x le h);
        }

  -- all are made, and as many serials are given
  pub all-turtles-made : (into after : Agents) (i : ℕ) → TurtlesTaken from into i → length from.turtles ≤ i → after ≡ record into { turtles_given = from.turtles_given }
      → after ≡ record from { links = []; links_given = 0 }
  all-turtles-made into after i taken le e =
      e ∙ ap (λ (a : Agents). record a { turtles_given = from.turtles_given }) taken.are
      ∙ ap (λ (ts : List Turtle). record from { turtles = ts; links = []; links_given = 0 }) (take_all i from.turtles le)

  pub all-links-made : (into after : Agents) (i : ℕ) → LinksTaken from into i → length from.links ≤ i → after ≡ record into { links_given = from.links_given } → after ≡ from
  all-links-made into after i taken le e =
      e ∙ ap (λ (a : Agents). record a { links_given = from.links_given }) taken.are
      ∙ ap (λ (ls : List Link). record from { links = ls }) (take_all i from.links le)
