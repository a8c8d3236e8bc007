-- What was set has the value, every other variable has the one that it had; and what breeds leave of variables.
use Rattle.std.specs.Prelude.{◌≡◌, ℕ, zero, suc, ◌-◌, ◌==◌, true, List, [], ◌∷◌, ◌++◌, length, Option, Some, None, IfSome, option_map, nat_lt, slice_get, slice_set, cond}
use Rattle.std.proofs.Common.{arith, false, ap, ◌∙◌, sym, refl, subst, ⊎_elim}
use Rattle.std.proofs.lemmas.Bool.{eq-eqb, cond-true, cond_both, ltb-true, ltb-false, eqb-true, ne_eqb, cases_eq}
use Rattle.std.proofs.lemmas.List.Elements.{All-weaker}
use Rattle.nl_grid.specs.declared.point.Point.{Point}
use Rattle.nl_agents_layout.specs.BuiltIn.{first_of_turtle}
use Rattle.std.proofs.lemmas.List.{set-append_left, set-append_right}
use Rattle.nl_value.specs.Plain.{Plain}
use Rattle.nl_agents_layout.specs.Nouns.{Slot, BreedNumber}
use Rattle.nl_agents.specs.Nouns.{Vars}
use Rattle.nl_agents_layout.specs.Layouts.{turtle_owns, has_slot}
use Rattle.nl_agents.specs.World.{World}
use Rattle.nl_agents.specs.Changes.{is_turtle, is_link, turtle_of, link_of, patch_vars, in_turtle, in_link, in_patch, value_in, value_set, set_entry, value_of, global_set, changed_at, bred_vars, rebred, revalued, TurtleLives, bred_entry, birth_vars, newborn, born}
use Rattle.nl_agents.specs.Standing.{IsWorld, IsTurtleOf}
use Rattle.nl_agents_layout.specs.declared.layout.Layout.{Layout}
use Rattle.nl_agents.specs.declared.agents.Turtle.{Turtle}
use Rattle.nl_agents.specs.declared.agents.Link.{Link}
use Rattle.nl_agents.specs.declared.agents.Owner.{Owner}
use Rattle.nl_agents.specs.declared.agents.Owner.TheVariants as owner
use Rattle.nl_agents.proofs.Finding.{found_after, found_changed, found_passes, found_all, none_found, there, if_passes}
use Rattle.nl_agents.proofs.Vars.{set_same, set_other, there_and_back, bred_exactly, first_exactly}
use Rattle.nl_agents.proofs.Worlds.{turtle_by, link_by, serial_by, link_serial_by}

-- ---- lists by an index

set_at_same : (xs : List Plain) (i : ℕ) (x : Plain) → slice_get (slice_set xs i x) i ≡ set_entry x (slice_get xs i)
set_at_same [] i x = refl
set_at_same (y ∷ ys) zero x = refl
set_at_same (y ∷ ys) (suc i) x = set_at_same ys i x

set_at_other : (xs : List Plain) (i j : ℕ) (x : Plain) → (i ≡ j → ⊥) → slice_get (slice_set xs i x) j ≡ slice_get xs j
set_at_other [] i j x h = refl
set_at_other (y ∷ ys) zero zero x h = absurd (h refl)
set_at_other (y ∷ ys) zero (suc j) x h = refl
set_at_other (y ∷ ys) (suc i) zero x h = refl
set_at_other (y ∷ ys) (suc i) (suc j) x h = set_at_other ys i j x (λ e. h (ap suc e))

changed_same : (change : Vars → Vars) (i : ℕ) (xs : List Vars) → slice_get (changed_at change i xs) i ≡ option_map change (slice_get xs i)
changed_same change i [] = refl
changed_same change zero (x ∷ xs) = refl
changed_same change (suc i) (x ∷ xs) = changed_same change i xs

pub changed_other : (change : Vars → Vars) (i j : ℕ) (xs : List Vars) → (i ≡ j → ⊥) → slice_get (changed_at change i xs) j ≡ slice_get xs j
changed_other change i j [] h = refl
changed_other change zero zero (x ∷ xs) h = absurd (h refl)
changed_other change zero (suc j) (x ∷ xs) h = refl
changed_other change (suc i) zero (x ∷ xs) h = refl
changed_other change (suc i) (suc j) (x ∷ xs) h = changed_other change i j xs (λ e. h (ap suc e))

-- all global variables, where one was set
pub globals_set : (slot : Slot) (value : Plain) (w : World) → (global_set slot value w).globals ++ (global_set slot value w).rest.run ≡ slice_set (w.globals ++ w.rest.run) slot value
globals_set slot value w =
    cond_both (nat_lt slot (length w.globals)) (record w { globals = slice_set w.globals slot value })
    (record w { rest = record w.rest { run = slice_set w.rest.run (slot - length w.globals) value } })
    (λ x. x.globals ++ x.rest.run ≡ slice_set (w.globals ++ w.rest.run) slot value)
    (λ t. sym (set-append_left w.globals w.rest.run slot value (ltb-true slot (length w.globals) t)))
    (λ t. sym (set-append_right w.globals w.rest.run (length w.globals) slot value refl (ltb-false slot (length w.globals) t)))

-- ---- the one that was set

in_turtle_set : (layout : Layout) (slot : Slot) (value : Plain) (serial : ℕ) (o : Option Turtle) → IfSome o (λ t. is_turtle serial t ≡ true)
    → in_turtle layout slot (option_map (turtle_by (λ t. record t { vars = value_set layout.some_turtle t.vars slot value }) serial) o) ≡ set_entry value (in_turtle layout slot o)
in_turtle_set layout slot value serial None h = refl
in_turtle_set layout slot value serial (Some t) h =
    ap (λ (x : Turtle). value_in layout.some_turtle x.vars slot) (cond-true (is_turtle serial t) (record t { vars = value_set layout.some_turtle t.vars slot value }) t h)
    ∙ set_same layout.some_turtle t.vars slot value

in_link_set : (layout : Layout) (slot : Slot) (value : Plain) (serial : ℕ) (o : Option Link) → IfSome o (λ l. is_link serial l ≡ true)
    → in_link layout slot (option_map (link_by (λ l. record l { vars = value_set layout.some_link l.vars slot value }) serial) o) ≡ set_entry value (in_link layout slot o)
in_link_set layout slot value serial None h = refl
in_link_set layout slot value serial (Some l) h =
    ap (λ (x : Link). value_in layout.some_link x.vars slot) (cond-true (is_link serial l) (record l { vars = value_set layout.some_link l.vars slot value }) l h)
    ∙ set_same layout.some_link l.vars slot value

in_patch_set : (layout : Layout) (slot : Slot) (value : Plain) (o : Option Vars)
    → in_patch layout slot (option_map (λ vars. value_set layout.every_patch vars slot value) o) ≡ set_entry value (in_patch layout slot o)
in_patch_set layout slot value None = refl
in_patch_set layout slot value (Some vars) = set_same layout.every_patch vars slot value

pub setting_sets : (w : World) (whose : Owner) (slot : Slot) (value : Plain) → value_of whose slot (revalued whose slot value w) ≡ set_entry value (value_of whose slot w)
setting_sets w owner.Observer slot value =
    ap (λ xs. slice_get xs slot) (globals_set slot value w) ∙ set_at_same (w.globals ++ w.rest.run) slot value
setting_sets w (owner.Turtle serial) slot value =
    let change : Turtle → Turtle = λ t. record t { vars = value_set w.rest.layout.some_turtle t.vars slot value } in
    ap (in_turtle w.rest.layout slot)
    (found_changed (is_turtle serial) (turtle_by change serial) (λ t. ap (λ n. n == serial) (serial_by change (λ _. refl) serial t)) w.rest.turtles)
    ∙ in_turtle_set w.rest.layout slot value serial (turtle_of serial w.rest) (if_passes (is_turtle serial) w.rest.turtles (turtle_of serial w.rest) refl)
setting_sets w (owner.Patch patch) slot value =
    ap (in_patch w.rest.layout slot) (changed_same (λ vars. value_set w.rest.layout.every_patch vars slot value) patch w.rest.patches)
    ∙ in_patch_set w.rest.layout slot value (patch_vars w.rest patch)
setting_sets w (owner.Link serial) slot value =
    let change : Link → Link = λ l. record l { vars = value_set w.rest.layout.some_link l.vars slot value } in
    ap (in_link w.rest.layout slot)
    (found_changed (is_link serial) (link_by change serial) (λ l. ap (λ n. n == serial) (link_serial_by change (λ _. refl) serial l)) w.rest.links)
    ∙ in_link_set w.rest.layout slot value serial (link_of serial w.rest) (if_passes (is_link serial) w.rest.links (link_of serial w.rest) refl)

-- ---- every other

in_turtle_kept : (layout : Layout) (slot another : Slot) (value : Plain) (serial other : ℕ) (o : Option Turtle) → (serial ≡ other → slot ≡ another → ⊥) → IfSome o (λ t. is_turtle other t ≡ true)
    → in_turtle layout another (option_map (turtle_by (λ t. record t { vars = value_set layout.some_turtle t.vars slot value }) serial) o) ≡ in_turtle layout another o
in_turtle_kept layout slot another value serial other None apart h = refl
in_turtle_kept layout slot another value serial other (Some t) apart h =
    cond_both (is_turtle serial t) (record t { vars = value_set layout.some_turtle t.vars slot value }) t
    (λ (x : Turtle). value_in layout.some_turtle x.vars another ≡ value_in layout.some_turtle t.vars another)
    (λ e. set_other layout.some_turtle t.vars slot another value
    (ne_eqb slot another (apart (sym (eqb-true t.serial serial e) ∙ eqb-true t.serial other h))))
    (λ _. refl)

in_link_kept : (layout : Layout) (slot another : Slot) (value : Plain) (serial other : ℕ) (o : Option Link) → (serial ≡ other → slot ≡ another → ⊥) → IfSome o (λ l. is_link other l ≡ true)
    → in_link layout another (option_map (link_by (λ l. record l { vars = value_set layout.some_link l.vars slot value }) serial) o) ≡ in_link layout another o
in_link_kept layout slot another value serial other None apart h = refl
in_link_kept layout slot another value serial other (Some l) apart h =
    cond_both (is_link serial l) (record l { vars = value_set layout.some_link l.vars slot value }) l
    (λ (x : Link). value_in layout.some_link x.vars another ≡ value_in layout.some_link l.vars another)
    (λ e. set_other layout.some_link l.vars slot another value
    (ne_eqb slot another (apart (sym (eqb-true l.serial serial e) ∙ eqb-true l.serial other h))))
    (λ _. refl)

in_patch_kept : (layout : Layout) (slot another : Slot) (value : Plain) (o : Option Vars) → (slot ≡ another → ⊥)
    → in_patch layout another (option_map (λ vars. value_set layout.every_patch vars slot value) o) ≡ in_patch layout another o
in_patch_kept layout slot another value None apart = refl
in_patch_kept layout slot another value (Some vars) apart = set_other layout.every_patch vars slot another value (ne_eqb slot another apart)

-- a global variable is no agent's
pub kept_beside : (slot : Slot) (value : Plain) (w : World) (P : World → Type 0) → ((globals : List Plain) → P (record w { globals = globals })) → ((run : List Plain) → P (record w { rest = record w.rest { run = run } })) → P (global_set slot value w)
kept_beside slot value w P one other =
    cond_both (nat_lt slot (length w.globals)) (record w { globals = slice_set w.globals slot value })
    (record w { rest = record w.rest { run = slice_set w.rest.run (slot - length w.globals) value } }) P
    (λ _. one (slice_set w.globals slot value)) (λ _. other (slice_set w.rest.run (slot - length w.globals) value))

pub setting_keeps : (w : World) (whose other : Owner) (slot another : Slot) (value : Plain) → (whose ≡ other → slot ≡ another → ⊥) → value_of other another (revalued whose slot value w) ≡ value_of other another w
setting_keeps w owner.Observer owner.Observer slot another value apart =
    ap (λ xs. slice_get xs another) (globals_set slot value w) ∙ set_at_other (w.globals ++ w.rest.run) slot another value (apart refl)
setting_keeps w owner.Observer (owner.Turtle o) slot another value apart =
    kept_beside slot value w (λ x. value_of (owner.Turtle o) another x ≡ value_of (owner.Turtle o) another w) (λ _. refl) (λ _. refl)
setting_keeps w owner.Observer (owner.Patch o) slot another value apart =
    kept_beside slot value w (λ x. value_of (owner.Patch o) another x ≡ value_of (owner.Patch o) another w) (λ _. refl) (λ _. refl)
setting_keeps w owner.Observer (owner.Link o) slot another value apart =
    kept_beside slot value w (λ x. value_of (owner.Link o) another x ≡ value_of (owner.Link o) another w) (λ _. refl) (λ _. refl)
setting_keeps w (owner.Turtle s) owner.Observer slot another value apart = refl
setting_keeps w (owner.Turtle s) (owner.Turtle o) slot another value apart =
    let change : Turtle → Turtle = λ t. record t { vars = value_set w.rest.layout.some_turtle t.vars slot value } in
    ap (in_turtle w.rest.layout another)
    (found_changed (is_turtle o) (turtle_by change s) (λ t. ap (λ n. n == o) (serial_by change (λ _. refl) s t)) w.rest.turtles)
    ∙ in_turtle_kept w.rest.layout slot another value s o (turtle_of o w.rest) (λ e. apart (ap owner.Turtle e)) (if_passes (is_turtle o) w.rest.turtles (turtle_of o w.rest) refl)
setting_keeps w (owner.Turtle s) (owner.Patch o) slot another value apart = refl
setting_keeps w (owner.Turtle s) (owner.Link o) slot another value apart = refl
setting_keeps w (owner.Patch s) owner.Observer slot another value apart = refl
setting_keeps w (owner.Patch s) (owner.Turtle o) slot another value apart = refl
setting_keeps w (owner.Patch s) (owner.Patch o) slot another value apart =
    let change : Vars → Vars = λ vars. value_set w.rest.layout.every_patch vars slot value in
    ⊎_elim
    (λ e. ap (in_patch w.rest.layout another)
    (subst (λ n. slice_get (changed_at change s w.rest.patches) n ≡ option_map change (slice_get w.rest.patches n)) e (changed_same change s w.rest.patches))
    ∙ in_patch_kept w.rest.layout slot another value (patch_vars w.rest o) (apart (ap owner.Patch e)))
    (λ e. ap (in_patch w.rest.layout another) (changed_other change s o w.rest.patches e))
    (cases_eq s o)
setting_keeps w (owner.Patch s) (owner.Link o) slot another value apart = refl
setting_keeps w (owner.Link s) owner.Observer slot another value apart = refl
setting_keeps w (owner.Link s) (owner.Turtle o) slot another value apart = refl
setting_keeps w (owner.Link s) (owner.Patch o) slot another value apart = refl
setting_keeps w (owner.Link s) (owner.Link o) slot another value apart =
    let change : Link → Link = λ l. record l { vars = value_set w.rest.layout.some_link l.vars slot value } in
    ap (in_link w.rest.layout another)
    (found_changed (is_link o) (link_by change s) (λ l. ap (λ n. n == o) (link_serial_by change (λ _. refl) s l)) w.rest.links)
    ∙ in_link_kept w.rest.layout slot another value s o (link_of o w.rest) (λ e. apart (ap owner.Link e)) (if_passes (is_link o) w.rest.links (link_of o w.rest) refl)

-- ---- changes of breed

-- the turtle after a change of its breed
rebred_of : (w : World) (serial : ℕ) (t : Turtle) (breed : BreedNumber) → turtle_of serial w.rest ≡ Some t
    → turtle_of serial (rebred serial breed w).rest ≡ Some (record t { breed = breed; vars = bred_vars w.rest.layout breed t.vars })
rebred_of w serial t breed e =
    let change : Turtle → Turtle = λ x. record x { breed = breed; vars = bred_vars w.rest.layout breed x.vars } in
    found_changed (is_turtle serial) (turtle_by change serial) (λ x. ap (λ n. n == serial) (serial_by change (λ _. refl) serial x)) w.rest.turtles
    ∙ ap (option_map (turtle_by change serial)) e
    ∙ ap Some (cond-true (is_turtle serial t) (change t) t (found_passes (is_turtle serial) w.rest.turtles t e))

pub back_again : (w : World) (serial : ℕ) (t : Turtle) (breed : BreedNumber) (slot : Slot) → IsWorld w → turtle_of serial w.rest ≡ Some t
    → turtle_owns w.rest.layout t.breed slot ≡ true → turtle_owns w.rest.layout breed slot ≡ true
    → value_of (owner.Turtle serial) slot (rebred serial t.breed (rebred serial breed w)) ≡ value_of (owner.Turtle serial) slot w
back_again w serial t breed slot h e own other =
    let is = found_all (is_turtle serial) (IsTurtleOf w.rest) w.rest.turtles t h.agents.turtles e in
    let there = rebred_of w serial t breed e in
    let back = rebred_of (rebred serial breed w) serial (record t { breed = breed; vars = bred_vars w.rest.layout breed t.vars }) t.breed there in
    ap (in_turtle w.rest.layout slot) back
    ∙ there_and_back (turtle_owns w.rest.layout t.breed) (turtle_owns w.rest.layout breed) w.rest.layout.some_turtle t.vars slot is.vars.owned own other
    ∙ sym (ap (in_turtle w.rest.layout slot) e)

pub breeds_change : (w : World) (serial : ℕ) (breed : BreedNumber) (slot : Slot) → IsWorld w → TurtleLives serial w → has_slot w.rest.layout.some_turtle slot ≡ true
    → value_of (owner.Turtle serial) slot (rebred serial breed w) ≡ bred_entry (turtle_owns w.rest.layout breed slot) (value_of (owner.Turtle serial) slot w)
breeds_change w serial breed slot h lives has =
    let at = there (turtle_of serial w.rest) lives in
    let t = at.0 in
    let is = found_all (is_turtle serial) (IsTurtleOf w.rest) w.rest.turtles t h.agents.turtles at.1 in
    ap (in_turtle w.rest.layout slot) (rebred_of w serial t breed at.1)
    ∙ bred_exactly (turtle_owns w.rest.layout t.breed) (turtle_owns w.rest.layout breed) w.rest.layout.some_turtle t.vars slot is.vars.owned has
    ∙ ap (λ o. bred_entry (turtle_owns w.rest.layout breed slot) (in_turtle w.rest.layout slot o)) (sym at.1)

-- the turtle that was born last
born_of : (w : World) (breed : BreedNumber) (at : Point) (parent : Option ℕ) → IsWorld w → turtle_of w.rest.turtles_given (born breed at parent w).rest ≡ Some (newborn breed at parent w.rest)
born_of w breed at parent h =
    let r = w.rest in
    let t = newborn breed at parent r in
    found_after (is_turtle r.turtles_given) r.turtles (t ∷ [])
    (none_found (is_turtle r.turtles_given) r.turtles
    (All-weaker (IsTurtleOf r) (λ x. is_turtle r.turtles_given x ≡ false)
    (λ x a. let l = a.given in ne_eqb x.serial r.turtles_given (λ q. omega (arith, l, q))) r.turtles h.agents.turtles))
    ∙ cond-true (r.turtles_given == r.turtles_given) (Some t) None (eq-eqb r.turtles_given r.turtles_given refl)

pub births_copy : (w : World) (breed : BreedNumber) (at : Point) (parent : ℕ) (slot : Slot) → IsWorld w → TurtleLives parent w → has_slot w.rest.layout.some_turtle slot ≡ true
    → value_of (owner.Turtle w.rest.turtles_given) slot (born breed at (Some parent) w) ≡ bred_entry (turtle_owns w.rest.layout breed slot) (value_of (owner.Turtle parent) slot w)
births_copy w breed at parent slot h lives has =
    let found = there (turtle_of parent w.rest) lives in
    let t = found.0 in
    let is = found_all (is_turtle parent) (IsTurtleOf w.rest) w.rest.turtles t h.agents.turtles found.1 in
    ap (in_turtle w.rest.layout slot) (born_of w breed at (Some parent) h)
    ∙ ap (λ o. value_in w.rest.layout.some_turtle (birth_vars w.rest.layout breed o) slot) found.1
    ∙ bred_exactly (turtle_owns w.rest.layout t.breed) (turtle_owns w.rest.layout breed) w.rest.layout.some_turtle t.vars slot is.vars.owned has
    ∙ ap (λ o. bred_entry (turtle_owns w.rest.layout breed slot) (in_turtle w.rest.layout slot o)) (sym found.1)

pub births_give : (w : World) (breed : BreedNumber) (at : Point) (slot : Slot) → IsWorld w → has_slot w.rest.layout.some_turtle slot ≡ true
    → value_of (owner.Turtle w.rest.turtles_given) slot (born breed at None w) ≡ cond (turtle_owns w.rest.layout breed slot) (Some (first_of_turtle slot)) None
births_give w breed at slot h has =
    ap (in_turtle w.rest.layout slot) (born_of w breed at None h)
    ∙ first_exactly (turtle_owns w.rest.layout breed) first_of_turtle w.rest.layout.some_turtle slot has
