-- Every value of a world fits it, and every heading is a number.
use Rattle.std.specs.Prelude.{◌≡◌, ℕ, zero, suc, Bool, true, IsTrue, List, [], ◌∷◌, ◌++◌, Option, Some, None, IfSome, All, slice_get}
use Rattle.std.specs.List.{list_all}
use Rattle.std.proofs.Common.{◌∙◌, sym, refl, subst}
use Rattle.std.proofs.lemmas.Bool.{and_parts, and_from, eqb-true, false≢true}
use Rattle.std.proofs.lemmas.List.Elements.{All-head, All-tail}
use Rattle.std.proofs.lemmas.List.Folds.{list_all-append}
use Rattle.nl_value.specs.Plain.{Plain}
use Rattle.nl_agents_layout.specs.Nouns.{Slot}
use Rattle.nl_agents.specs.Nouns.{Vars}
use Rattle.nl_agents_layout.specs.BuiltIn.{heading_slot}
use Rattle.nl_agents.specs.World.{Rest, World}
use Rattle.nl_agents.specs.Changes.{is_turtle, is_link, turtle_of, link_of, patch_vars, in_turtle, in_link, in_patch, value_in, value_of}
use Rattle.nl_agents.specs.Standing.{IsWorld, IsTurtleOf, IsLinkOf, ArePatchVars, MayHold, fits_rest, is_heading, IsNumber}
use Rattle.nl_agents.specs.declared.agents.Turtle.{Turtle}
use Rattle.nl_agents.specs.declared.agents.Link.{Link}
use Rattle.nl_agents.specs.declared.agents.Owner.{Owner}
use Rattle.nl_agents.specs.declared.agents.Owner.TheVariants as owner
use Rattle.nl_agents.proofs.Finding.{if_found}
use Rattle.nl_agents.proofs.Vars.{fits_under}

at_index : (test : Plain → Bool) (xs : List Plain) (i : ℕ) → list_all test xs ≡ true → IfSome (slice_get xs i) (λ x. test x ≡ true)
at_index test [] i h = tt
at_index test (x ∷ xs) zero h = (and_parts (test x) (list_all test xs) h).0
at_index test (x ∷ xs) (suc i) h = at_index test xs i ((and_parts (test x) (list_all test xs) h).1)

-- a value that fits may be held, where it is a number if it is a heading
both : (r : Rest) (whose : Owner) (slot : Slot) (o : Option Plain) → IfSome o (λ x. fits_rest r x ≡ true) → (IsTrue (is_heading whose slot) → IfSome o IsNumber) → IfSome o (MayHold r whose slot)
both r whose slot None fits number = tt
both r whose slot (Some x) fits number = (fits, number)

of_turtle : (r : Rest) (serial slot : ℕ) (o : Option Turtle) → IfSome o (IsTurtleOf r) → IfSome (in_turtle r.layout slot o) (MayHold r (owner.Turtle serial) slot)
of_turtle r serial slot None h = tt
of_turtle r serial slot (Some t) h =
    both r (owner.Turtle serial) slot (value_in r.layout.some_turtle t.vars slot)
    (fits_under (fits_rest r) r.layout.some_turtle t.vars slot h.vars.fit)
    (λ e. subst (λ n. IfSome (value_in r.layout.some_turtle t.vars n) IsNumber) (sym (eqb-true slot heading_slot e)) h.heading)

of_link : (r : Rest) (serial slot : ℕ) (o : Option Link) → IfSome o (IsLinkOf r) → IfSome (in_link r.layout slot o) (MayHold r (owner.Link serial) slot)
of_link r serial slot None h = tt
of_link r serial slot (Some l) h =
    both r (owner.Link serial) slot (value_in r.layout.some_link l.vars slot)
    (fits_under (fits_rest r) r.layout.some_link l.vars slot h.vars.fit)
    (λ e. absurd (false≢true e))

of_patch : (r : Rest) (patch slot : ℕ) (o : Option Vars) → IfSome o (ArePatchVars r) → IfSome (in_patch r.layout slot o) (MayHold r (owner.Patch patch) slot)
of_patch r patch slot None h = tt
of_patch r patch slot (Some vars) h =
    both r (owner.Patch patch) slot (value_in r.layout.every_patch vars slot)
    (fits_under (fits_rest r) r.layout.every_patch vars slot h.fit)
    (λ e. absurd (false≢true e))

-- ---- what stands at an index is what all are

if_at : {X : Type 0} (P : X → Type 0) (xs : List X) (i : ℕ) → All P xs → IfSome (slice_get xs i) P
if_at P [] i h = tt
if_at P (x ∷ xs) zero h = All-head P x xs h
if_at P (x ∷ xs) (suc i) h = if_at P xs i (All-tail P x xs h)

pub values_fit : (w : World) (whose : Owner) (slot : Slot) → IsWorld w → IfSome (value_of whose slot w) (MayHold w.rest whose slot)
values_fit w owner.Observer slot h =
    both w.rest owner.Observer slot (slice_get (w.globals ++ w.rest.run) slot)
    (at_index (fits_rest w.rest) (w.globals ++ w.rest.run) slot
    (list_all-append (fits_rest w.rest) w.globals w.rest.run
    ∙ and_from (list_all (fits_rest w.rest) w.globals) (list_all (fits_rest w.rest) w.rest.run) h.globals_fit h.run_fits))
    (λ e. absurd (false≢true e))
values_fit w (owner.Turtle serial) slot h =
    of_turtle w.rest serial slot (turtle_of serial w.rest) (if_found (is_turtle serial) (IsTurtleOf w.rest) w.rest.turtles (turtle_of serial w.rest) h.agents.turtles refl)
values_fit w (owner.Patch patch) slot h =
    of_patch w.rest patch slot (patch_vars w.rest patch) (if_at (ArePatchVars w.rest) w.rest.patches patch h.patches.vars)
values_fit w (owner.Link serial) slot h =
    of_link w.rest serial slot (link_of serial w.rest) (if_found (is_link serial) (IsLinkOf w.rest) w.rest.links (link_of serial w.rest) h.agents.links refl)
