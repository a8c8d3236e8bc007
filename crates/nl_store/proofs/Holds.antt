-- The world of a ground and of agents, and what is true of it.
use Rattle.std.specs.Prelude.{◌≡◌, ℕ, zero, suc, ◌+◌, ◌-◌, ◌<◌, ◌≤◌, ◌==◌, nat_lt, Bool, true, false, if◌then◌else◌, slice_get, slice_set, option_map, IfSome, IsTrue, OnErr, OnOk, Result, Ok, Err, List, [], ◌∷◌, Option, Some, None, filter, find, length, map, replicate, is_some}
use Rattle.std.specs.Option.{option_and_then, option_copied}
use Rattle.std.specs.Borrow.{Bor}
use Rattle.std.proofs.Common.{ap, ap₂, ◌∙◌, sym, subst, refl, arith, inl, inr}
use Rattle.std.proofs.lemmas.List.{length-map}
use Rattle.std.proofs.lemmas.List.Elements.{All-weaker}
use Rattle.std.proofs.lemmas.Option.{same_Some, slice_get_within}
use Rattle.nl_value.specs.Plain.{Plain}
use Rattle.nl_value.specs.Views.{plain}
use Rattle.nl_value.specs.declared.values.Value.{Value}
use Rattle.nl_grid.specs.Geometry.{IsPointOf, Plane, patch_at}
use Rattle.nl_grid.specs.declared.point.Point.{Point}
use Rattle.nl_agents_layout.specs.Nouns.{BreedNumber, Slot}
use Rattle.nl_agents_layout.specs.declared.layout.BreedLayout.{BreedLayout}
use Rattle.nl_agents_layout.specs.declared.layout.Layout.{Layout}
use Rattle.nl_agents_layout.specs.Layouts.{breeds_count, is_breed_of, is_link_breed, is_turtle_breed, turtle_owns}
use Rattle.nl_agents.specs.Nouns.{Vars}
use Rattle.nl_agents.specs.World.{World, first_world}
use Rattle.nl_agents.specs.Changes.{birth_vars, bred_vars, is_turtle, is_link, in_link, in_turtle, parent_of, AreTurtlesFull, AreLinksFull, TurtleLives, value_in, value_of, global_set, revalued}
use Rattle.nl_agents.specs.Standing.{IsWorld, IsTurtleOf, IsLinkOf, MayHold}
use Rattle.nl_agents.specs.declared.agents.Turtle.{Turtle}
use Rattle.nl_agents.specs.declared.agents.Link.{Link}
use Rattle.nl_agents.specs.declared.agents.Owner.{Owner}
use Rattle.nl_agents.proofs.Finding.{found_all}
use Rattle.nl_agents.proofs.Holding.{values_fit}
use Rattle.nl_agents.proofs.Worlds.{revalued_is_world}
use Rattle.nl_agents_ground.specs.Grounds.{IsFirst, KeepsGlobals, KeepsPatches, globals_set, run_set}
use Rattle.nl_agents_ground.specs.declared.ground.Ground.{Ground}
use Rattle.nl_store_files.specs.Agents.{Agents, KeepAll}
use Rattle.nl_store.specs.Sound.{AreSound, IsLinkAmong, IsTurtleAmong}
use Rattle.nl_store.specs.Worlds.{world_with, AreOf}

-- a breed of turtles has a chain
pub breed-below : (layout : Layout) (breed : BreedNumber) → IsTrue (is_turtle_breed layout breed) → breed < breeds_count layout
breed-below layout zero h = omega arith
breed-below layout (suc n) h = go (slice_get layout.breeds n) refl h
  where
    go : (o : Option BreedLayout) → slice_get layout.breeds n ≡ o → IsTrue (is_breed_of false o) → suc n < breeds_count layout
    go None e f = absurd (cc)
    go (Some b) e f = let l = slice_get_within layout.breeds n b e in omega (arith, l)

module _ (g : Ground) (a : Agents) (base : ℕ) (stands : IsWorld (world_with g a base)) where
  -- ---- a turtle, or a link, that is found

  pub turtle-stands : (serial : ℕ) (t : Turtle) → find (is_turtle serial) a.turtles ≡ Some t → IsTurtleOf (world_with g a base).rest t
  turtle-stands serial t e = found_all (is_turtle serial) (IsTurtleOf (world_with g a base).rest) a.turtles t stands.agents.turtles e

  pub link-stands : (serial : ℕ) (l : Link) → find (is_link serial) a.links ≡ Some l → IsLinkOf (world_with g a base).rest l
  link-stands serial l e = found_all (is_link serial) (IsLinkOf (world_with g a base).rest) a.links l stands.agents.links e

  pub point-inside : (serial : ℕ) (at : Point) → option_map (λ (t : Turtle). t.at) (find (is_turtle serial) a.turtles) ≡ Some at → IsPointOf g.shape at
  point-inside serial at e = go (find (is_turtle serial) a.turtles) refl e
    where
      go : (o : Option Turtle) → find (is_turtle serial) a.turtles ≡ o → option_map (λ (t : Turtle). t.at) o ≡ Some at → IsPointOf g.shape at
      go None f h = absurd (cc)
      go (Some t) f h = subst (IsPointOf g.shape) (same_Some t.at at h) (turtle-stands serial t f).at

  pub breed-is : (serial breed : ℕ) → option_map (λ (t : Turtle). t.breed) (find (is_turtle serial) a.turtles) ≡ Some breed → IsTrue (is_turtle_breed g.layout breed)
  breed-is serial breed e = go (find (is_turtle serial) a.turtles) refl e
    where
      go : (o : Option Turtle) → find (is_turtle serial) a.turtles ≡ o → option_map (λ (t : Turtle). t.breed) o ≡ Some breed → IsTrue (is_turtle_breed g.layout breed)
      go None f h = absurd (cc)
      go (Some t) f h = subst (λ (b : ℕ). IsTrue (is_turtle_breed g.layout b)) (same_Some t.breed breed h) (turtle-stands serial t f).breed

  pub link-breed-is : (serial breed : ℕ) → option_map (λ (l : Link). l.breed) (find (is_link serial) a.links) ≡ Some breed → IsTrue (is_link_breed g.layout breed)
  link-breed-is serial breed e = go (find (is_link serial) a.links) refl e
    where
      go : (o : Option Link) → find (is_link serial) a.links ≡ o → option_map (λ (l : Link). l.breed) o ≡ Some breed → IsTrue (is_link_breed g.layout breed)
      go None f h = absurd (cc)
      go (Some l) f h = subst (λ (b : ℕ). IsTrue (is_link_breed g.layout b)) (same_Some l.breed breed h) (link-stands serial l f).breed

  pub first-lives : (serial end : ℕ) → option_map (λ (l : Link). l.end1) (find (is_link serial) a.links) ≡ Some end → TurtleLives end (world_with g a base)
  first-lives serial end e = go (find (is_link serial) a.links) refl e
    where
      go : (o : Option Link) → find (is_link serial) a.links ≡ o → option_map (λ (l : Link). l.end1) o ≡ Some end → TurtleLives end (world_with g a base)
      go None f h = absurd (cc)
      go (Some l) f h = subst (λ (n : ℕ). TurtleLives n (world_with g a base)) (same_Some l.end1 end h) (link-stands serial l f).first

  pub second-lives : (serial end : ℕ) → option_map (λ (l : Link). l.end2) (find (is_link serial) a.links) ≡ Some end → TurtleLives end (world_with g a base)
  second-lives serial end e = go (find (is_link serial) a.links) refl e
    where
      go : (o : Option Link) → find (is_link serial) a.links ≡ o → option_map (λ (l : Link). l.end2) o ≡ Some end → TurtleLives end (world_with g a base)
      go None f h = absurd (cc)
      go (Some l) f h = subst (λ (n : ℕ). TurtleLives n (world_with g a base)) (same_Some l.end2 end h) (link-stands serial l f).second

  -- each turtle keeps one entry a slot
  vars-are-many : (t : Turtle) → IsTurtleOf (world_with g a base).rest t → length t.vars ≡ length g.layout.some_turtle
  vars-are-many t is = sym (length-map t.vars is_some) ∙ ap length is.vars.owned ∙ length-map g.layout.some_turtle (turtle_owns g.layout t.breed)

  pub keep-all : KeepAll g.layout a.turtles
  keep-all = All-weaker (IsTurtleOf (world_with g a base).rest) (λ (t : Turtle). length t.vars ≡ length g.layout.some_turtle) vars-are-many a.turtles stands.agents.turtles

  -- the same agents can be made again
  turtle-among : AreOf g a → (t : Turtle) → IsTurtleOf (world_with g a base).rest t → IsTurtleAmong a t
  turtle-among fits t is = record {
    given = is.given;
    at = subst (λ (s : Plane). IsPointOf s t.at) (sym fits.shape_is) is.at;
    breed = omega (arith, breed-below g.layout t.breed is.breed, fits.breeds_are);
  }

  link-among : (l : Link) → IsLinkOf (world_with g a base).rest l → IsLinkAmong a l
  link-among l is = record { given = is.given; first = is.first; second = is.second; apart = is.apart }

  pub are-sound : AreOf g a → AreSound a
  are-sound fits = record {
    turtles_ascend = stands.agents.turtles_ascend;
    turtles = All-weaker (IsTurtleOf (world_with g a base).rest) (IsTurtleAmong a) (turtle-among fits) a.turtles stands.agents.turtles;
    few_turtles = stands.few.turtles;
    turtles_given = stands.few.turtles_given;
    links_ascend = stands.agents.links_ascend;
    links = All-weaker (IsLinkOf (world_with g a base).rest) (IsLinkAmong a) link-among a.links stands.agents.links;
    few_links = stands.few.links;
    links_given = stands.few.links_given;
  }

-- ---- births

pub parent-found : (parent : Option ℕ) (g : Ground) (a : Agents) (base : ℕ) → option_and_then (λ serial. find (is_turtle serial) a.turtles) parent ≡ parent_of parent (world_with g a base).rest
parent-found None g a base = refl
parent-found (Some serial) g a base = refl

pub room-for-turtles : (w : World) → length w.rest.turtles < 200_000 → w.rest.turtles_given < 9_000_000_000_000 → AreTurtlesFull w → ⊥
room-for-turtles w l m (inl few) = omega (arith, l, few)
room-for-turtles w l m (inr few) = omega (arith, m, few)

pub room-for-links : (w : World) → length w.rest.links < 400_000 → w.rest.links_given < 9_000_000_000_000 → AreLinksFull w → ⊥
room-for-links w l m (inl few) = omega (arith, l, few)
room-for-links w l m (inr few) = omega (arith, m, few)

-- ---- the ground

pub made-first : (layout : Layout) (shape : Plane) (breeds : ℕ) (g : Ground) (a : Agents) → IsFirst layout shape g → a ≡ record {
  shape = shape;
  breeds = breeds;
  turtles = [];
  links = [];
  turtles_given = 0;
  links_given = 0;
} → world_with g a 0 ≡ first_world layout shape
made-first layout shape breeds g a h e = ap (λ (x : Agents). world_with g x 0) e ∙ rw h.shape_is (rw h.layout_is (rw h.globals (rw h.run (rw h.patches refl))))

-- ---- variables

pub turtle-value : (layout : Layout) (slot : Slot) (o : Option Turtle) (vars : Vars) → option_map (λ (t : Turtle). t.vars) o ≡ Some vars → value_in layout.some_turtle vars slot ≡ in_turtle layout slot o
turtle-value layout slot None vars e = absurd (cc)
turtle-value layout slot (Some t) vars e = ap (λ (vs : Vars). value_in layout.some_turtle vs slot) (sym (same_Some t.vars vars e))

pub link-value : (layout : Layout) (slot : Slot) (o : Option Link) (vars : Vars) → option_map (λ (l : Link). l.vars) o ≡ Some vars → value_in layout.some_link vars slot ≡ in_link layout slot o
link-value layout slot None vars e = absurd (cc)
link-value layout slot (Some l) vars e = ap (λ (vs : Vars). value_in layout.some_link vs slot) (sym (same_Some l.vars vars e))

-- a value that was found may stand there
pub holds-back : (w : World) (whose : Owner) (slot : Slot) (o : Option (Bor Value)) → IsWorld w → option_map plain (option_copied o) ≡ value_of whose slot w → IfSome o (λ value. MayHold w.rest whose slot (plain value.now))
holds-back w whose slot None stands e = tt
holds-back w whose slot (Some value) stands e = subst (λ p. IfSome p (MayHold w.rest whose slot)) (sym e) (values_fit w whose slot stands)

-- the world after a variable was set
pub revalued-stands : (w after : World) (said whose : Owner) (slot : Slot) (value : Plain) → IsWorld w → MayHold w.rest said slot value → said ≡ whose
    → after ≡ revalued whose slot value w → IsWorld after
revalued-stands w after said whose slot value stands holds is e =
    subst IsWorld (sym e) (revalued_is_world whose slot value w stands (subst (λ (o : Owner). MayHold w.rest o slot value) is holds))

-- the same world with other global variables, or with other patches
abbrev pub with_observed : World → List Plain → List Plain → World
with_observed w globals run = record w { globals = globals; rest = record w.rest { run = run } }

abbrev pub with_patches : World → List Vars → World
with_patches w ps = record w { rest = record w.rest { patches = ps } }

pub observed-anew : (old new : Ground) (a : Agents) (base : ℕ) (globals run : List Plain) → KeepsPatches old new → new.globals ≡ globals → new.run ≡ run → world_with new a base ≡ with_observed (world_with old a base) globals run
observed-anew old new a base globals run k g r = rw k.shape_is (rw k.layout_is (rw k.patches_are (rw g (rw r refl))))

pub patched-anew : (old new : Ground) (a : Agents) (base : ℕ) (patches : List Vars) → KeepsGlobals old new → new.patches.items ≡ patches → world_with new a base ≡ with_patches (world_with old a base) patches
patched-anew old new a base patches k p = rw k.shape_is (rw k.layout_is (rw k.globals_are (rw k.run_is (rw p refl))))

-- agents are of a ground whose shape and layout stay
pub of-the-same : (old new : Ground) (a : Agents) → AreOf old a → new.shape ≡ old.shape → new.layout ≡ old.layout → AreOf new a
of-the-same old new a h s l = record { shape_is = h.shape_is ∙ sym s; breeds_are = h.breeds_are ∙ ap breeds_count (sym l) }

observed : (b : Bool) (w : World) (slot : Slot) (value : Plain) (globals run : List Plain)
    → globals ≡ (if b then slice_set w.globals slot value else w.globals)
    → run ≡ (if b then w.rest.run else slice_set w.rest.run (slot - length w.globals) value)
    → with_observed w globals run ≡ (if b then record w { globals = slice_set w.globals slot value } else record w { rest = record w.rest { run = slice_set w.rest.run (slot - length w.globals) value } })
observed true w slot value globals run g r = ap₂ (with_observed w) g r
observed false w slot value globals run g r = ap₂ (with_observed w) g r

-- a global variable that was set
pub globals-written : (w : World) (slot : Slot) (value : Plain) (globals run : List Plain)
    → globals ≡ globals_set slot value w.globals → run ≡ run_set slot value w.globals w.rest.run → with_observed w globals run ≡ global_set slot value w
globals-written w slot value globals run g r = observed (nat_lt slot (length w.globals)) w slot value globals run g r

one-each : (value : Vars) (xs : List Vars) → map (λ (vars : Vars). value) xs ≡ replicate (length xs) value
one-each value [] = refl
one-each value (x ∷ xs) = ap (λ vs. value ∷ vs) (one-each value xs)

-- so many patches with their first values
pub all-first : (value : Vars) (xs : List Vars) (n : ℕ) → length xs ≡ n → map (λ (vars : Vars). value) xs ≡ replicate n value
all-first value xs n h = one-each value xs ∙ ap (λ m. replicate m value) h

-- ---- what a turtle keeps at its birth

pub hatched-vars : (layout : Layout) (breed : BreedNumber) (o : Option Turtle) (vars : Vars) → option_map (λ (t : Turtle). t.vars) o ≡ Some vars → bred_vars layout breed vars ≡ birth_vars layout breed o
hatched-vars layout breed None vars e = absurd (cc)
hatched-vars layout breed (Some t) vars e = ap (bred_vars layout breed) (sym (same_Some t.vars vars e))

pub hatched-many : (layout : Layout) (ts : List Turtle) (serial : ℕ) (vars : Vars) → KeepAll layout ts → option_map (λ (t : Turtle). t.vars) (find (is_turtle serial) ts) ≡ Some vars
    → length vars ≡ length layout.some_turtle
hatched-many layout ts serial vars h e = go (find (is_turtle serial) ts) refl e
  where
    go : (o : Option Turtle) → find (is_turtle serial) ts ≡ o → option_map (λ (t : Turtle). t.vars) o ≡ Some vars → length vars ≡ length layout.some_turtle
    go None f k = absurd (cc)
    go (Some t) f k =
        subst (λ (vs : Vars). length vs ≡ length layout.some_turtle) (same_Some t.vars vars k)
        (found_all (is_turtle serial) (λ (x : Turtle). length x.vars ≡ length layout.some_turtle) ts t h f)

-- ---- reads

pub reads-more : {X : Type 0} (f : X → ℕ) (xs : List X) (old new : ℕ) → new ≤ old + length xs → new ≤ old + length (map f xs) + 1
reads-more f xs old new h = omega (arith, h, length-map xs f)

-- the turtles on a patch, by the shape of the ground
pub on-patch : (g : Ground) (a : Agents) (patch : ℕ) → AreOf g a → filter (λ (t : Turtle). patch_at a.shape t.at == patch) a.turtles ≡ filter (λ (t : Turtle). patch_at g.shape t.at == patch) a.turtles
on-patch g a patch fits = ap (λ (s : Plane). filter (λ (t : Turtle). patch_at s t.at == patch) a.turtles) fits.shape_is

-- ---- other agents on the same ground

pub still-of : (g : Ground) (a after : Agents) → AreOf g a → after.shape ≡ a.shape → after.breeds ≡ a.breeds → AreOf g after
still-of g a after h s b = record { shape_is = s ∙ h.shape_is; breeds_are = b ∙ h.breeds_are }

-- the breed has a chain
pub breed-inside : (g : Ground) (a : Agents) (breed : ℕ) → AreOf g a → IsTrue (is_turtle_breed g.layout breed) → breed < a.breeds
breed-inside g a breed fits h = omega (arith, breed-below g.layout breed h, fits.breeds_are)

-- the same ground again
pub copied-anew : (old new : Ground) (a : Agents) (base : ℕ) → KeepsGlobals old new → KeepsPatches old new → world_with new a base ≡ world_with old a base
copied-anew old new a base g p = observed-anew old new a base old.globals old.run p g.globals_are g.run_is

-- what holds of the agents after a call that was made whole, or not at all
pub either-way : {T E : Type 0} (P : Agents → Type 0) (r : Result T E) (new made old : Agents) → OnOk r (new ≡ made) → OnErr r (new ≡ old) → P made → P old → P new
either-way P (Ok x) new made old e k is was = subst P (sym e) is
either-way P (Err x) new made old e k is was = subst P (sym k) was
