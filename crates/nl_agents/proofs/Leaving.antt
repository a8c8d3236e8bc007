-- A call leaves whatever it isn't on as it was.
use Rattle.std.specs.Prelude.{◌≡◌, ℕ, ◌<◌, ◌==◌, Bool, true, not, List, [], ◌∷◌, ◌++◌, map, filter, find, Option, Some, None, IsSome, IfSome, option_map}
use Rattle.std.proofs.Common.{arith, ap, ◌∙◌, sym, refl}
use Rattle.std.proofs.lemmas.Bool.{cond-true, cond-false, cond_both, false≢true, eqb-true, ne_eqb}
use Rattle.nl_value.specs.Plain.{Plain}
use Rattle.nl_agents_layout.specs.Nouns.{Slot}
use Rattle.nl_agents.specs.World.{World}
use Rattle.nl_agents.specs.Changes.{is_turtle, is_link, turtle_of, link_of, TurtleLives, LinkLives, patch_vars, global_value, newborn, new_link, has_end, bred_vars, value_set, revalued}
use Rattle.nl_agents.specs.Standing.{IsWorld}
use Rattle.nl_agents.specs.Calls.{Call, Bear, Kill, Shift, Rebreed, Tie, Cut, SetVar, ClearTurtles, ClearLinks, ClearPatches, ClearGlobals, after, Touches}
use Rattle.nl_agents.specs.Laws.{LeavesTheRest}
use Rattle.nl_agents.specs.declared.agents.Turtle.{Turtle}
use Rattle.nl_agents.specs.declared.agents.Link.{Link}
use Rattle.nl_agents.specs.declared.agents.Owner.{Owner}
use Rattle.nl_agents.specs.declared.agents.Owner.TheVariants as owner
use Rattle.nl_agents.proofs.Keyed.{Ascend, ascend_tail, above}
use Rattle.nl_agents.proofs.Finding.{found_before, found_changed, found_all, found_passes, there, if_passes}
use Rattle.nl_agents.proofs.Setting.{changed_other, kept_beside}
use Rattle.nl_agents.proofs.Worlds.{turtle_by, link_by, serial_by, link_serial_by}

-- ---- what is found of what is kept

module _ {X : Type 0} (key : X → ℕ) where
  -- where keys ascend, an item that is found by its key among those that are kept is the one that was found before
  kept_is_found : (keep : X → Bool) (xs : List X) (k : ℕ) (x : X) → Ascend key xs → find (λ y. key y == k) (filter keep xs) ≡ Some x → find (λ y. key y == k) xs ≡ Some x
  kept_is_found keep [] k x up e = e
  kept_is_found keep (y ∷ ys) k x up e =
      let tail = ascend_tail (key y) (map key ys) up in
      cond_both (keep y) (y ∷ filter keep ys) (filter keep ys) (λ l. find (λ z. key z == k) l ≡ Some x → find (λ z. key z == k) (y ∷ ys) ≡ Some x)
      (λ _. cond_both (key y == k) (Some y) (find (λ z. key z == k) (filter keep ys)) (λ o. o ≡ Some x → find (λ z. key z == k) (y ∷ ys) ≡ Some x)
      (λ t q. cond-true (key y == k) (Some y) (find (λ z. key z == k) ys) t ∙ q)
      (λ t q. cond-false (key y == k) (Some y) (find (λ z. key z == k) ys) t ∙ kept_is_found keep ys k x tail q))
      (λ _ q.
      let found = kept_is_found keep ys k x tail q in
      let l = found_all (λ z. key z == k) (λ z. key y < key z) ys x (above key y ys up) found in
      let same = eqb-true (key x) k (found_passes (λ z. key z == k) ys x found) in
      cond-false (key y == k) (Some y) (find (λ z. key z == k) ys) (ne_eqb (key y) k (λ p. omega (arith, l, same, p))) ∙ found)
      e

  pub kept_stays : (keep : X → Bool) (xs : List X) (k : ℕ) → Ascend key xs → IsSome (find (λ y. key y == k) (filter keep xs)) → find (λ y. key y == k) (filter keep xs) ≡ find (λ y. key y == k) xs
  kept_stays keep xs k up h =
      let at = there (find (λ y. key y == k) (filter keep xs)) h in
      at.1 ∙ sym (kept_is_found keep xs k at.0 up at.1)

-- what was there before more came
pub more_stays : {X : Type 0} (test : X → Bool) (xs ys : List X) → IsSome (find test xs) → find test (xs ++ ys) ≡ find test xs
more_stays test xs ys h =
    let at = there (find test xs) h in
    found_before test xs ys at.0 at.1 ∙ sym at.1

-- ---- one of another serial was changed

turtle_untouched : (change : Turtle → Turtle) (changed serial : ℕ) (o : Option Turtle) → (serial ≡ changed → ⊥) → IfSome o (λ t. is_turtle serial t ≡ true) → option_map (turtle_by change changed) o ≡ o
turtle_untouched change changed serial None apart h = refl
turtle_untouched change changed serial (Some t) apart h =
    ap Some (cond-false (is_turtle changed t) (change t) t (ne_eqb t.serial changed (λ e. apart (sym (eqb-true t.serial serial h) ∙ e))))

link_untouched : (change : Link → Link) (changed serial : ℕ) (o : Option Link) → (serial ≡ changed → ⊥) → IfSome o (λ l. is_link serial l ≡ true) → option_map (link_by change changed) o ≡ o
link_untouched change changed serial None apart h = refl
link_untouched change changed serial (Some l) apart h =
    ap Some (cond-false (is_link changed l) (change l) l (ne_eqb l.serial changed (λ e. apart (sym (eqb-true l.serial serial h) ∙ e))))

other_turtle : (change : Turtle → Turtle) → ((t : Turtle) → (change t).serial ≡ t.serial) → (changed serial : ℕ) (turtles : List Turtle) → (serial ≡ changed → ⊥)
    → find (is_turtle serial) (map (turtle_by change changed) turtles) ≡ find (is_turtle serial) turtles
other_turtle change same changed serial turtles apart =
    found_changed (is_turtle serial) (turtle_by change changed) (λ t. ap (λ n. n == serial) (serial_by change same changed t)) turtles
    ∙ turtle_untouched change changed serial (find (is_turtle serial) turtles) apart (if_passes (is_turtle serial) turtles (find (is_turtle serial) turtles) refl)

other_link : (change : Link → Link) → ((l : Link) → (change l).serial ≡ l.serial) → (changed serial : ℕ) (links : List Link) → (serial ≡ changed → ⊥)
    → find (is_link serial) (map (link_by change changed) links) ≡ find (is_link serial) links
other_link change same changed serial links apart =
    found_changed (is_link serial) (link_by change changed) (λ l. ap (λ n. n == serial) (link_serial_by change same changed l)) links
    ∙ link_untouched change changed serial (find (is_link serial) links) apart (if_passes (is_link serial) links (find (is_link serial) links) refl)

-- ---- turtles

set_leaves_turtle : (whose : Owner) (slot : Slot) (value : Plain) (w : World) (serial : ℕ) → (owner.Turtle serial ≡ whose → ⊥) → turtle_of serial (revalued whose slot value w).rest ≡ turtle_of serial w.rest
set_leaves_turtle owner.Observer slot value w serial apart = kept_beside slot value w (λ x. turtle_of serial x.rest ≡ turtle_of serial w.rest) (λ _. refl) (λ _. refl)
set_leaves_turtle (owner.Turtle turtle) slot value w serial apart =
    other_turtle (λ t. record t { vars = value_set w.rest.layout.some_turtle t.vars slot value }) (λ t. refl) turtle serial w.rest.turtles (λ e. apart (ap owner.Turtle e))
set_leaves_turtle (owner.Patch patch) slot value w serial apart = refl
set_leaves_turtle (owner.Link link) slot value w serial apart = refl

leaves_turtle : (call : Call) (w : World) → IsWorld w → (serial : ℕ) → (Touches call (owner.Turtle serial) → ⊥) → TurtleLives serial w → TurtleLives serial (after call w) → turtle_of serial (after call w).rest ≡ turtle_of serial w.rest
leaves_turtle (Bear breed at parent) w h serial apart before now = more_stays (is_turtle serial) w.rest.turtles (newborn breed at parent w.rest ∷ []) before
leaves_turtle (Kill turtle) w h serial apart before now = kept_stays (λ (t : Turtle). t.serial) (λ t. not (is_turtle turtle t)) w.rest.turtles serial h.agents.turtles_ascend now
leaves_turtle (Shift turtle to) w h serial apart before now = other_turtle (λ t. record t { at = to }) (λ t. refl) turtle serial w.rest.turtles (λ e. apart (ap owner.Turtle e))
leaves_turtle (Rebreed turtle breed) w h serial apart before now =
    other_turtle (λ t. record t { breed = breed; vars = bred_vars w.rest.layout breed t.vars }) (λ t. refl) turtle serial w.rest.turtles (λ e. apart (ap owner.Turtle e))
leaves_turtle (Tie breed directed end1 end2) w h serial apart before now = refl
leaves_turtle (Cut link) w h serial apart before now = refl
leaves_turtle (SetVar whose slot value) w h serial apart before now = set_leaves_turtle whose slot value w serial apart
leaves_turtle ClearTurtles w h serial apart before now = absurd (false≢true now)
leaves_turtle ClearLinks w h serial apart before now = refl
leaves_turtle ClearPatches w h serial apart before now = refl
leaves_turtle ClearGlobals w h serial apart before now = refl

-- ---- links

set_leaves_link : (whose : Owner) (slot : Slot) (value : Plain) (w : World) (serial : ℕ) → (owner.Link serial ≡ whose → ⊥) → link_of serial (revalued whose slot value w).rest ≡ link_of serial w.rest
set_leaves_link owner.Observer slot value w serial apart = kept_beside slot value w (λ x. link_of serial x.rest ≡ link_of serial w.rest) (λ _. refl) (λ _. refl)
set_leaves_link (owner.Turtle turtle) slot value w serial apart = refl
set_leaves_link (owner.Patch patch) slot value w serial apart = refl
set_leaves_link (owner.Link link) slot value w serial apart =
    other_link (λ l. record l { vars = value_set w.rest.layout.some_link l.vars slot value }) (λ l. refl) link serial w.rest.links (λ e. apart (ap owner.Link e))

leaves_link : (call : Call) (w : World) → IsWorld w → (serial : ℕ) → (Touches call (owner.Link serial) → ⊥) → LinkLives serial w → LinkLives serial (after call w) → link_of serial (after call w).rest ≡ link_of serial w.rest
leaves_link (Bear breed at parent) w h serial apart before now = refl
leaves_link (Kill turtle) w h serial apart before now = kept_stays (λ (l : Link). l.serial) (λ l. not (has_end turtle l)) w.rest.links serial h.agents.links_ascend now
leaves_link (Shift turtle to) w h serial apart before now = refl
leaves_link (Rebreed turtle breed) w h serial apart before now = refl
leaves_link (Tie breed directed end1 end2) w h serial apart before now = more_stays (is_link serial) w.rest.links (new_link breed directed end1 end2 w.rest ∷ []) before
leaves_link (Cut link) w h serial apart before now = kept_stays (λ (l : Link). l.serial) (λ l. not (is_link link l)) w.rest.links serial h.agents.links_ascend now
leaves_link (SetVar whose slot value) w h serial apart before now = set_leaves_link whose slot value w serial apart
leaves_link ClearTurtles w h serial apart before now = absurd (false≢true now)
leaves_link ClearLinks w h serial apart before now = absurd (false≢true now)
leaves_link ClearPatches w h serial apart before now = refl
leaves_link ClearGlobals w h serial apart before now = refl

-- ---- patches, global variables, the shape and the layout

set_leaves_patch : (whose : Owner) (slot : Slot) (value : Plain) (w : World) (patch : ℕ) → (owner.Patch patch ≡ whose → ⊥) → patch_vars (revalued whose slot value w).rest patch ≡ patch_vars w.rest patch
set_leaves_patch owner.Observer slot value w patch apart = kept_beside slot value w (λ x. patch_vars x.rest patch ≡ patch_vars w.rest patch) (λ _. refl) (λ _. refl)
set_leaves_patch (owner.Turtle turtle) slot value w patch apart = refl
set_leaves_patch (owner.Patch other) slot value w patch apart =
    changed_other (λ vars. value_set w.rest.layout.every_patch vars slot value) other patch w.rest.patches (λ e. apart (ap owner.Patch (sym e)))
set_leaves_patch (owner.Link link) slot value w patch apart = refl

leaves_patch : (call : Call) (w : World) (patch : ℕ) → (Touches call (owner.Patch patch) → ⊥) → patch_vars (after call w).rest patch ≡ patch_vars w.rest patch
leaves_patch (Bear breed at parent) w patch apart = refl
leaves_patch (Kill turtle) w patch apart = refl
leaves_patch (Shift turtle to) w patch apart = refl
leaves_patch (Rebreed turtle breed) w patch apart = refl
leaves_patch (Tie breed directed end1 end2) w patch apart = refl
leaves_patch (Cut link) w patch apart = refl
leaves_patch (SetVar whose slot value) w patch apart = set_leaves_patch whose slot value w patch apart
leaves_patch ClearTurtles w patch apart = refl
leaves_patch ClearLinks w patch apart = refl
leaves_patch ClearPatches w patch apart = absurd (apart tt)
leaves_patch ClearGlobals w patch apart = refl

set_leaves_globals : (whose : Owner) (slot : Slot) (value : Plain) (w : World) (another : Slot) → (owner.Observer ≡ whose → ⊥) → global_value (revalued whose slot value w) another ≡ global_value w another
set_leaves_globals owner.Observer slot value w another apart = absurd (apart refl)
set_leaves_globals (owner.Turtle turtle) slot value w another apart = refl
set_leaves_globals (owner.Patch patch) slot value w another apart = refl
set_leaves_globals (owner.Link link) slot value w another apart = refl

leaves_globals : (call : Call) (w : World) (slot : Slot) → (Touches call owner.Observer → ⊥) → global_value (after call w) slot ≡ global_value w slot
leaves_globals (Bear breed at parent) w slot apart = refl
leaves_globals (Kill turtle) w slot apart = refl
leaves_globals (Shift turtle to) w slot apart = refl
leaves_globals (Rebreed turtle breed) w slot apart = refl
leaves_globals (Tie breed directed end1 end2) w slot apart = refl
leaves_globals (Cut link) w slot apart = refl
leaves_globals (SetVar whose set value) w slot apart = set_leaves_globals whose set value w slot apart
leaves_globals ClearTurtles w slot apart = refl
leaves_globals ClearLinks w slot apart = refl
leaves_globals ClearPatches w slot apart = refl
leaves_globals ClearGlobals w slot apart = absurd (apart refl)

leaves_ground : (call : Call) (w : World) → ((after call w).rest.shape ≡ w.rest.shape) × ((after call w).rest.layout ≡ w.rest.layout)
leaves_ground (Bear breed at parent) w = (refl, refl)
leaves_ground (Kill turtle) w = (refl, refl)
leaves_ground (Shift turtle to) w = (refl, refl)
leaves_ground (Rebreed turtle breed) w = (refl, refl)
leaves_ground (Tie breed directed end1 end2) w = (refl, refl)
leaves_ground (Cut link) w = (refl, refl)
leaves_ground (SetVar owner.Observer slot value) w =
    kept_beside slot value w (λ x. (x.rest.shape ≡ w.rest.shape) × (x.rest.layout ≡ w.rest.layout)) (λ _. (refl, refl)) (λ _. (refl, refl))
leaves_ground (SetVar (owner.Turtle turtle) slot value) w = (refl, refl)
leaves_ground (SetVar (owner.Patch patch) slot value) w = (refl, refl)
leaves_ground (SetVar (owner.Link link) slot value) w = (refl, refl)
leaves_ground ClearTurtles w = (refl, refl)
leaves_ground ClearLinks w = (refl, refl)
leaves_ground ClearPatches w = (refl, refl)
leaves_ground ClearGlobals w = (refl, refl)

pub leaves_the_rest : (call : Call) (w : World) → IsWorld w → LeavesTheRest call w
leaves_the_rest call w h = record {
  turtles = leaves_turtle call w h;
  links = leaves_link call w h;
  patches = leaves_patch call w;
  globals = λ apart slot. leaves_globals call w slot apart;
  shape = (leaves_ground call w).0;
  layout = (leaves_ground call w).1;
}
