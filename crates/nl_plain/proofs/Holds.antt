-- The world of a store, and the same one with other lists of agents.
use Rattle.std.specs.Prelude.{◌≡◌, ℕ, ◌+◌, ◌-◌, ◌<◌, nat_lt, Bool, true, false, if◌then◌else◌, slice_set, option_map, IfSome, List, [], ◌∷◌, Option, Some, None, find, length, map, replicate, is_some}
use Rattle.std.specs.Option.{option_and_then, option_copied}
use Rattle.std.specs.Borrow.{Bor}
use Rattle.std.proofs.Common.{ap, ap₂, ◌∙◌, sym, subst, refl, arith, inl, inr}
use Rattle.std.proofs.lemmas.List.{length-map}
use Rattle.nl_value.specs.Plain.{Plain}
use Rattle.nl_value.specs.Views.{plain}
use Rattle.nl_value.specs.declared.values.Value.{Value}
use Rattle.nl_grid.specs.Geometry.{Plane}
use Rattle.nl_agents_layout.specs.Nouns.{Slot}
use Rattle.nl_agents.specs.Nouns.{Vars}
use Rattle.nl_agents_layout.specs.BuiltIn.{zero_value}
use Rattle.nl_agents_layout.specs.declared.layout.Layout.{Layout}
use Rattle.nl_agents_layout.specs.Layouts.{turtle_owns}
use Rattle.nl_agents.specs.World.{World, first_world, first_patches}
use Rattle.nl_agents.specs.Changes.{is_turtle, is_link, parent_of, AreTurtlesFull, AreLinksFull, value_of, global_set, revalued}
use Rattle.nl_agents.specs.Standing.{IsWorld, IsTurtleOf, IsLinkOf, MayHold}
use Rattle.nl_agents.specs.declared.agents.Turtle.{Turtle}
use Rattle.nl_agents.specs.declared.agents.Link.{Link}
use Rattle.nl_agents.specs.declared.agents.Owner.{Owner}
use Rattle.nl_agents.proofs.Finding.{found_all}
use Rattle.nl_agents.proofs.Holding.{values_fit}
use Rattle.nl_agents.proofs.Worlds.{revalued_is_world}
use Rattle.nl_plain.specs.Lists.{world_of}

abbrev pub with_agents : World → List Turtle → List Link → World
with_agents w ts ls = record w { rest = record w.rest { turtles = ts; links = ls } }

abbrev pub with_turtles : World → List Turtle → World
with_turtles w ts = record w { rest = record w.rest { turtles = ts } }

abbrev pub with_links : World → List Link → World
with_links w ls = record w { rest = record w.rest { links = ls } }

abbrev pub with_patches : World → List Vars → World
with_patches w ps = record w { rest = record w.rest { patches = ps } }

abbrev pub with_globals : World → List Plain → World
with_globals w gs = record w { globals = gs }

-- what is true of a turtle, or a link, that is found
pub turtle_stands : (w : World) (seen : List Turtle) (serial : ℕ) (t : Turtle) → IsWorld w → seen ≡ w.rest.turtles → find (is_turtle serial) seen ≡ Some t → IsTurtleOf w.rest t
turtle_stands w seen serial t stands same e =
    found_all (is_turtle serial) (IsTurtleOf w.rest) w.rest.turtles t stands.agents.turtles (subst (λ ts. find (is_turtle serial) ts ≡ Some t) same e)

pub link_stands : (w : World) (seen : List Link) (serial : ℕ) (l : Link) → IsWorld w → seen ≡ w.rest.links → find (is_link serial) seen ≡ Some l → IsLinkOf w.rest l
link_stands w seen serial l stands same e =
    found_all (is_link serial) (IsLinkOf w.rest) w.rest.links l stands.agents.links (subst (λ ls. find (is_link serial) ls ≡ Some l) same e)

-- a turtle keeps one entry a slot
pub vars_are_many : (w : World) (t : Turtle) → IsTurtleOf w.rest t → length t.vars ≡ length w.rest.layout.some_turtle
vars_are_many w t is =
    sym (length-map t.vars is_some) ∙ ap length is.vars.owned ∙ length-map w.rest.layout.some_turtle (turtle_owns w.rest.layout t.breed)

-- ---- births

abbrev pub with_births : World → List Turtle → World
with_births w ts = record w { rest = record w.rest { turtles = ts; turtles_given = w.rest.turtles_given + 1 } }

abbrev pub with_ties : World → List Link → World
with_ties w ls = record w { rest = record w.rest { links = ls; links_given = w.rest.links_given + 1 } }

pub parent_found : (parent : Option ℕ) (w : World) (seen : List Turtle) → seen ≡ w.rest.turtles → option_and_then (λ serial. find (is_turtle serial) seen) parent ≡ parent_of parent w.rest
parent_found None w seen same = refl
parent_found (Some serial) w seen same = ap (λ ts. find (is_turtle serial) ts) same

pub room_for_turtles : (w : World) → length w.rest.turtles < 200_000 → w.rest.turtles_given < 9_000_000_000_000 → AreTurtlesFull w → ⊥
room_for_turtles w l m (inl few) = omega (arith, l, few)
room_for_turtles w l m (inr few) = omega (arith, m, few)

pub room_for_links : (w : World) → length w.rest.links < 400_000 → w.rest.links_given < 9_000_000_000_000 → AreLinksFull w → ⊥
room_for_links w l m (inl few) = omega (arith, l, few)
room_for_links w l m (inr few) = omega (arith, m, few)

-- ---- first worlds, and patches with their first values

pub made_first : (shape : Plane) (layout : Layout) (globals run : List Plain) (turtles : List Turtle) (patches : List Vars) (links : List Link)
    → globals ≡ replicate layout.globals zero_value → run ≡ replicate 2 zero_value → turtles ≡ [] → patches ≡ first_patches layout shape → links ≡ []
    → world_of shape layout globals run turtles patches links 0 0 0 ≡ first_world layout shape
made_first shape layout globals run turtles patches links g r t p l = rw g (rw r (rw t (rw p (rw l refl))))

one_each : (value : Vars) (xs : List Vars) → map (λ (vars : Vars). value) xs ≡ replicate (length xs) value
one_each value [] = refl
one_each value (x ∷ xs) = ap (λ vs. value ∷ vs) (one_each value xs)

pub all_first : (value : Vars) (xs : List Vars) (n : ℕ) → length xs ≡ n → map (λ (vars : Vars). value) xs ≡ replicate n value
all_first value xs n h = one_each value xs ∙ ap (λ m. replicate m value) h

-- ---- variables

-- a value that was found may stand there
pub holds_back : (w : World) (whose : Owner) (slot : Slot) (o : Option (Bor Value)) → IsWorld w → option_map plain (option_copied o) ≡ value_of whose slot w → IfSome o (λ value. MayHold w.rest whose slot (plain value.now))
holds_back w whose slot None stands e = tt
holds_back w whose slot (Some value) stands e = subst (λ p. IfSome p (MayHold w.rest whose slot)) (sym e) (values_fit w whose slot stands)

-- the world after a variable was set
pub revalued_stands : (w after : World) (said whose : Owner) (slot : Slot) (value : Plain) → IsWorld w → MayHold w.rest said slot value → said ≡ whose
    → after ≡ revalued whose slot value w → IsWorld after
revalued_stands w after said whose slot value stands holds is e =
    subst IsWorld (sym e) (revalued_is_world whose slot value w stands (subst (λ (o : Owner). MayHold w.rest o slot value) is holds))

abbrev pub with_observed : World → List Plain → List Plain → World
with_observed w globals run = record w { globals = globals; rest = record w.rest { run = run } }

observed : (b : Bool) (w : World) (slot : Slot) (value : Plain) (globals run : List Plain)
    → globals ≡ (if b then slice_set w.globals slot value else w.globals)
    → run ≡ (if b then w.rest.run else slice_set w.rest.run (slot - length w.globals) value)
    → with_observed w globals run ≡ (if b then record w { globals = slice_set w.globals slot value } else record w { rest = record w.rest { run = slice_set w.rest.run (slot - length w.globals) value } })
observed true w slot value globals run g r = ap₂ (with_observed w) g r
observed false w slot value globals run g r = ap₂ (with_observed w) g r

-- a global variable that was set
pub globals_written : (w : World) (slot : Slot) (value : Plain) (globals run : List Plain)
    → globals ≡ (if nat_lt slot (length w.globals) then slice_set w.globals slot value else w.globals)
    → run ≡ (if nat_lt slot (length w.globals) then w.rest.run else slice_set w.rest.run (slot - length w.globals) value)
    → with_observed w globals run ≡ global_set slot value w
globals_written w slot value globals run g r = observed (nat_lt slot (length w.globals)) w slot value globals run g r

-- ---- copies

-- what is put together of the same parts is the same world
pub of_same_parts : (w : World) (layout : Layout) (globals run : List Plain) (turtles : List Turtle) (patches : List Vars) (links : List Link) → layout ≡ w.rest.layout → globals ≡ w.globals → run ≡ w.rest.run → turtles ≡ w.rest.turtles → patches ≡ w.rest.patches → links ≡ w.rest.links → world_of w.rest.shape layout globals run turtles patches links w.rest.turtles_given w.rest.links_given w.rest.base ≡ w
of_same_parts w layout globals run turtles patches links is_layout are_globals is_run are_turtles are_patches are_links =
    rw (is_layout, are_globals, is_run, are_turtles, are_patches, are_links) refl
