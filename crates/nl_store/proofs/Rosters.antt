-- A roster after an agent came, went or was changed.
use Rattle.std.specs.Prelude.{◌≡◌, ℕ, ◌+◌, ◌<◌, ◌≤◌, ◌^◌, ◌==◌, Bool, true, false, cond, if◌then◌else◌, List, [], ◌∷◌, ◌++◌, filter, find, length, Option, Some, None, option_map}
use Rattle.std.proofs.Common.{arith, ap, ◌∙◌, sym, refl, subst}
use Rattle.std.proofs.lemmas.Bool.{eq-eqb}
use Rattle.nl_grid.specs.Geometry.{Plane}
use Rattle.nl_grid.specs.declared.point.Point.{Point}
use Rattle.nl_agents_layout.specs.declared.layout.Layout.{Layout}
use Rattle.nl_agents.specs.Nouns.{Vars}
use Rattle.nl_agents.specs.Changes.{bred_vars, is_link, is_turtle}
use Rattle.nl_agents.specs.Members.{is_of_breed, is_unbreeded}
use Rattle.nl_agents.specs.declared.agents.Link.{Link}
use Rattle.nl_agents.specs.declared.agents.Turtle.{Turtle}
use Rattle.nl_store_files.specs.Agents.{links_filled, turtles_filled, turtles_moved, turtles_rebred, turtle_serial, Agents}
use Rattle.nl_store.specs.declared.census.Census.{Census}
use Rattle.nl_store.specs.Counts.{breed_many, count_at, is_plain, plain_count, unbreeded, CountsNone, LinkLess, LinkMore, TurtleLess, TurtleMore}
use Rattle.nl_store.specs.Sound.{IsRoster, TurtlesAscend}
use Rattle.nl_store.proofs.Lists.{found-counted, one-changed, unseen}
use Rattle.nl_store.proofs.Tallies.{breed-changed, breed-room, counts-none, link-came, link-room, link-there, link-went, one-there, same-counts, turtle-came, turtle-went}

-- a roster of no agents
pub first-roster : (a : Agents) (census : Census) (shape : Plane) (breeds : ℕ) → a ≡ record {
  shape = shape;
  breeds = breeds;
  turtles = [];
  links = [];
  turtles_given = 0;
  links_given = 0;
} → CountsNone breeds census → IsRoster a census shape breeds
first-roster a census shape breeds e none =
    subst (λ (x : Agents). IsRoster x census shape breeds) (sym e) (record { counts = counts-none breeds census none; shape_is = refl; breeds_are = refl })

-- ---- what is found

pub record HasBreed (o : Option Turtle) (breed : ℕ) : Type 0 where
  pub turtle : Turtle
  pub is : o ≡ Some turtle
  pub breed_is : turtle.breed ≡ breed

pub has-breed : (o : Option Turtle) (breed : ℕ) → option_map (λ (t : Turtle). t.breed) o ≡ Some breed → HasBreed o breed
has-breed None breed e = absurd (cc)
has-breed (Some t) breed e = record { turtle = t; is = refl; breed_is = cc }

pub record HasKind (o : Option Link) (breed : ℕ) (directed : Bool) : Type 0 where
  pub link : Link
  pub is : o ≡ Some link
  pub breed_is : link.breed ≡ breed
  pub directed_is : link.directed ≡ directed

pub has-kind : (o : Option Link) (breed : ℕ) (directed : Bool) → option_map (λ (l : Link). l.breed) o ≡ Some breed → option_map (λ (l : Link). l.directed) o ≡ Some directed → HasKind o breed directed
has-kind None breed directed e f = absurd (cc)
has-kind (Some l) breed directed e f = record { link = l; is = refl; breed_is = cc; directed_is = cc }

module _ (a : Agents) (census : Census) (shape : Plane) (breeds : ℕ) (h : IsRoster a census shape breeds) where
  -- ---- one comes

  pub room-for-turtle : (breed : ℕ) → length a.turtles < 200_000 → count_at census breed < 2 ^ 63
  room-for-turtle breed few = breed-room census a.breeds breed a.turtles a.links h.counts (omega (arith, few))

  pub room-for-link : (directed : Bool) → length a.links < 400_000 → plain_count directed census < 2 ^ 63
  room-for-link directed few = link-room directed census a.breeds a.turtles a.links h.counts few

  pub breed-inside : (breed : ℕ) → breed < a.breeds → breed < length census.breeds.items
  breed-inside breed l = omega (arith, l, h.counts.many)

  pub turtle-joined : (after : Agents) (new : Census) (t : Turtle) (given : ℕ) → after ≡ record a { turtles = a.turtles ++ t ∷ []; turtles_given = given } → TurtleMore t.breed census new
      → IsRoster after new shape breeds
  turtle-joined after new t given e more =
      subst (λ (x : Agents). IsRoster x new shape breeds) (sym e)
      (record { counts = turtle-came census new a.breeds a.turtles a.links h.counts t more; shape_is = h.shape_is; breeds_are = h.breeds_are })

  pub link-joined : (after : Agents) (new : Census) (l : Link) (given : ℕ) → after ≡ record a { links = a.links ++ l ∷ []; links_given = given } → LinkMore l.breed l.directed census new
      → IsRoster after new shape breeds
  link-joined after new l given e more =
      subst (λ (x : Agents). IsRoster x new shape breeds) (sym e)
      (record { counts = link-came census new a.breeds a.turtles a.links h.counts l more; shape_is = h.shape_is; breeds_are = h.breeds_are })

  -- ---- one goes

  module _ (after : Agents) (serial breed : ℕ) (found : option_map (λ (t : Turtle). t.breed) (find (is_turtle serial) a.turtles) ≡ Some breed)
      (counts : (test : Turtle → Bool) (t : Turtle) → find (is_turtle serial) a.turtles ≡ Some t → length (filter test after.turtles) + (if test t then 1 else 0) ≡ length (filter test a.turtles)) where
    -- by breed there is one less
    breeds-less : (s : HasBreed (find (is_turtle serial) a.turtles) breed) (n : ℕ) → breed_many n after.turtles + cond (s.turtle.breed == n) 1 0 ≡ breed_many n a.turtles
    breeds-less s n = counts (is_of_breed n) s.turtle s.is

    pub turtle-counted : 0 < count_at census breed
    turtle-counted =
        let s = has-breed (find (is_turtle serial) a.turtles) breed found in
        subst (λ (b : ℕ). 0 < count_at census b) s.breed_is
        (one-there census census a.breeds a.turtles a.links h.counts after.turtles s.turtle (breeds-less s))

    pub turtle-left : (new : Census) → after ≡ record a { turtles = after.turtles } → TurtleLess breed census new → IsRoster after new shape breeds
    turtle-left new e less =
        let s = has-breed (find (is_turtle serial) a.turtles) breed found in
        let here = subst (λ (b : ℕ). TurtleLess b census new) (sym s.breed_is) less in
        subst (λ (x : Agents). IsRoster x new shape breeds) (sym e)
        (record {
          counts = turtle-went census new a.breeds a.turtles a.links h.counts after.turtles s.turtle (breeds-less s) here;
          shape_is = h.shape_is;
          breeds_are = h.breeds_are;
        })

  module _ (after : Agents) (serial breed : ℕ) (directed : Bool) (found : option_map (λ (l : Link). l.breed) (find (is_link serial) a.links) ≡ Some breed)
      (found_directed : option_map (λ (l : Link). l.directed) (find (is_link serial) a.links) ≡ Some directed)
      (counts : (test : Link → Bool) (l : Link) → find (is_link serial) a.links ≡ Some l → length (filter test after.links) + (if test l then 1 else 0) ≡ length (filter test a.links)) where
    kinds-less : (s : HasKind (find (is_link serial) a.links) breed directed) (d : Bool) → unbreeded d after.links + cond (is_unbreeded d s.link) 1 0 ≡ unbreeded d a.links
    kinds-less s d = counts (is_unbreeded d) s.link s.is

    pub link-counted : (asked : Bool) → cond (is_plain breed directed asked) 1 0 ≤ plain_count asked census
    link-counted asked =
        let s = has-kind (find (is_link serial) a.links) breed directed found found_directed in
        subst (λ (b : ℕ). cond (is_plain b directed asked) 1 0 ≤ plain_count asked census) s.breed_is
        (subst (λ (d : Bool). cond (is_plain s.link.breed d asked) 1 0 ≤ plain_count asked census) s.directed_is
        (link-there census census a.breeds a.turtles a.links h.counts asked after.links s.link (kinds-less s asked)))

    pub link-left : (new : Census) → after ≡ record a { links = after.links } → LinkLess breed directed census new → IsRoster after new shape breeds
    link-left new e less =
        let s = has-kind (find (is_link serial) a.links) breed directed found found_directed in
        let here = subst (λ (b : ℕ). LinkLess b s.link.directed census new) (sym s.breed_is) (subst (λ (d : Bool). LinkLess breed d census new) (sym s.directed_is) less) in
        subst (λ (x : Agents). IsRoster x new shape breeds) (sym e)
        (record {
          counts = link-went census new a.breeds a.turtles a.links h.counts after.links s.link (kinds-less s) here;
          shape_is = h.shape_is;
          breeds_are = h.breeds_are;
        })

  -- ---- one is changed

  pub same-roster : (after : Agents) (ts : List Turtle) (ls : List Link) (given links_given : ℕ)
      → after ≡ record a { turtles = ts; links = ls; turtles_given = given; links_given = links_given }
      → ((n : ℕ) → breed_many n ts ≡ breed_many n a.turtles) → ((d : Bool) → unbreeded d ls ≡ unbreeded d a.links) → IsRoster after census shape breeds
  same-roster after ts ls given links_given e same_turtles same_links =
      subst (λ (x : Agents). IsRoster x census shape breeds) (sym e)
      (record { counts = same-counts census a.breeds a.turtles ts a.links ls h.counts same_turtles same_links; shape_is = h.shape_is; breeds_are = h.breeds_are })

  pub turtle-moved : (after : Agents) (serial : ℕ) (to : Point) → after ≡ record a { turtles = turtles_moved serial to a.turtles } → IsRoster after census shape breeds
  turtle-moved after serial to e =
      same-roster after (turtles_moved serial to a.turtles) a.links a.turtles_given a.links_given e
      (λ n. unseen (is_of_breed n) (λ t. if is_turtle serial t then record t { at = to } else t) (λ t. moved-breed n t (is_turtle serial t)) a.turtles)
      (λ d. refl)
    where
      moved-breed : (n : ℕ) (t : Turtle) (b : Bool) → is_of_breed n (if b then record t { at = to } else t) ≡ is_of_breed n t
      moved-breed n t true = refl
      moved-breed n t false = refl

  pub turtle-filled : (after : Agents) (change : Vars → Vars) (serial : ℕ) → after ≡ record a { turtles = turtles_filled change serial a.turtles } → IsRoster after census shape breeds
  turtle-filled after change serial e =
      same-roster after (turtles_filled change serial a.turtles) a.links a.turtles_given a.links_given e
      (λ n. unseen (is_of_breed n) (λ t. if is_turtle serial t then record t { vars = change t.vars } else t) (λ t. filled-breed n t (is_turtle serial t)) a.turtles)
      (λ d. refl)
    where
      filled-breed : (n : ℕ) (t : Turtle) (b : Bool) → is_of_breed n (if b then record t { vars = change t.vars } else t) ≡ is_of_breed n t
      filled-breed n t true = refl
      filled-breed n t false = refl

  pub link-filled : (after : Agents) (change : Vars → Vars) (serial : ℕ) → after ≡ record a { links = links_filled change serial a.links } → IsRoster after census shape breeds
  link-filled after change serial e =
      same-roster after a.turtles (links_filled change serial a.links) a.turtles_given a.links_given e
      (λ n. refl)
      (λ d. unseen (is_unbreeded d) (λ l. if is_link serial l then record l { vars = change l.vars } else l) (λ l. filled-kind d l (is_link serial l)) a.links)
    where
      filled-kind : (d : Bool) (l : Link) (b : Bool) → is_unbreeded d (if b then record l { vars = change l.vars } else l) ≡ is_unbreeded d l
      filled-kind d l true = refl
      filled-kind d l false = refl

  -- ---- one is of another breed

  module _ (serial was is : ℕ) (found : option_map (λ (t : Turtle). t.breed) (find (is_turtle serial) a.turtles) ≡ Some was) where
    pub old-counted : 0 < count_at census was
    old-counted =
        let s = has-breed (find (is_turtle serial) a.turtles) was found in
        let some = found-counted (is_turtle serial) (is_of_breed was) a.turtles s.turtle s.is (ap (λ (n : ℕ). n == was) s.breed_is ∙ eq-eqb was was refl) in
        omega (arith, h.counts.by_breed was, some)

    pub middle-room : (middle : Census) → length a.turtles ≤ 200_000 → TurtleLess was census middle → count_at middle is < 2 ^ 63
    middle-room middle few less = omega (arith, breed-room census a.breeds is a.turtles a.links h.counts few, less.turtles is)

    pub middle-inside : (middle : Census) → is < a.breeds → TurtleLess was census middle → is < length middle.breeds.items
    middle-inside middle l less = omega (arith, l, less.many, h.counts.many)

    pub turtle-rebred : (after : Agents) (middle new : Census) (layout : Layout) → TurtlesAscend a.turtles → after ≡ record a { turtles = turtles_rebred layout serial is a.turtles }
        → TurtleLess was census middle → TurtleMore is middle new → IsRoster after new shape breeds
    turtle-rebred after middle new layout up e less more =
        let s = has-breed (find (is_turtle serial) a.turtles) was found in
        let turned = λ (n : ℕ). one-changed turtle_serial (λ (t : Turtle). record t { breed = is; vars = bred_vars layout is t.vars }) (is_of_breed n) a.turtles serial s.turtle up s.is in
        subst (λ (x : Agents). IsRoster x new shape breeds) (sym e)
        (record {
          counts = breed-changed census new a.breeds a.turtles a.links h.counts middle (turtles_rebred layout serial is a.turtles) s.turtle.breed is turned
              (subst (λ (b : ℕ). TurtleLess b census middle) (sym s.breed_is) less) more;
          shape_is = h.shape_is;
          breeds_are = h.breeds_are;
        })

-- ---- what is left is all that is changed

pub only-turtles-left : (a after : Agents) (ts : List Turtle) → after ≡ record a { turtles = ts } → after ≡ record a { turtles = after.turtles }
only-turtles-left a after ts e = e ∙ ap (λ (us : List Turtle). record a { turtles = us }) (sym (ap (λ (x : Agents). x.turtles) e))

pub only-links-left : (a after : Agents) (ls : List Link) → after ≡ record a { links = ls } → after ≡ record a { links = after.links }
only-links-left a after ls e = e ∙ ap (λ (us : List Link). record a { links = us }) (sym (ap (λ (x : Agents). x.links) e))
