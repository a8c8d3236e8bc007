-- First values fit every world, and the first heading is a number.
use Rattle.std.specs.Prelude.{◌≡◌, ℕ, zero, suc, Bool, true, List, [], ◌∷◌, length, replicate, Option, Some, None, IfSome, All, slice_get}
use Rattle.std.specs.Option.{option_and_then}
use Rattle.std.specs.List.{list_all}
use Rattle.std.proofs.Common.{refl}
use Rattle.std.proofs.lemmas.Bool.{and_parts, and_from}
use Rattle.std.proofs.lemmas.List.{length-replicate}
use Rattle.std.proofs.lemmas.List.Elements.{All-replicate}
use Rattle.nl_value.specs.Plain.{Plain}
use Rattle.nl_grid.specs.Geometry.{Plane, patches_of}
use Rattle.nl_agents_layout.specs.Nouns.{Slot, BreedNumber}
use Rattle.nl_agents_layout.specs.BuiltIn.{BuiltIn, built_in, zero_value, heading_slot, value_or_zero, first_of_turtle, first_of_patch, first_of_link}
use Rattle.nl_agents_layout.specs.Layouts.{turtle_owns, link_owns}
use Rattle.nl_agents.specs.World.{Rest, first_turtle_vars, first_link_vars, first_patch_vars, first_patches}
use Rattle.nl_agents.specs.Changes.{value_in}
use Rattle.nl_agents.specs.Standing.{AreVars, ArePatchVars, entry_fits, fits_rest, IsNumber}
use Rattle.nl_agents_layout.specs.declared.layout.Layout.{Layout}
use Rattle.nl_agents.proofs.Vars.{first_are_vars, first_under}

entry_or_zero : (fits : Plain → Bool) (o : Option Plain) → fits zero_value ≡ true → entry_fits fits o ≡ true → fits (value_or_zero o) ≡ true
entry_or_zero fits None z h = z
entry_or_zero fits (Some value) z h = h

-- a value of a column fits, where each of them does
column_fits : (fits : Plain → Bool) (column : BuiltIn → Option Plain) (rows : List BuiltIn) (slot : Slot) → fits zero_value ≡ true → list_all (λ row. entry_fits fits (column row)) rows ≡ true
    → fits (value_or_zero (option_and_then column (slice_get rows slot))) ≡ true
column_fits fits column [] slot z h = z
column_fits fits column (row ∷ rows) zero z h =
    entry_or_zero fits (column row) z ((and_parts (entry_fits fits (column row)) (list_all (λ r. entry_fits fits (column r)) rows) h).0)
column_fits fits column (row ∷ rows) (suc slot) z h =
    column_fits fits column rows slot z ((and_parts (entry_fits fits (column row)) (list_all (λ r. entry_fits fits (column r)) rows) h).1)

pub first_turtle_fits : (r : Rest) (slot : Slot) → fits_rest r (first_of_turtle slot) ≡ true
first_turtle_fits r slot = column_fits (fits_rest r) (λ row. row.turtle) built_in slot refl refl

pub first_patch_fits : (r : Rest) (slot : Slot) → fits_rest r (first_of_patch slot) ≡ true
first_patch_fits r slot = column_fits (fits_rest r) (λ row. row.patch) built_in slot refl refl

pub first_link_fits : (r : Rest) (slot : Slot) → fits_rest r (first_of_link slot) ≡ true
first_link_fits r slot = column_fits (fits_rest r) (λ row. row.link) built_in slot refl refl

-- what agents keep at first
pub first_turtle : (r : Rest) (breed : BreedNumber) → AreVars (fits_rest r) r.layout.some_turtle (turtle_owns r.layout breed) (first_turtle_vars r.layout breed)
first_turtle r breed = first_are_vars (fits_rest r) (turtle_owns r.layout breed) first_of_turtle r.layout.some_turtle (first_turtle_fits r)

pub first_heading : (layout : Layout) (breed : BreedNumber) → IfSome (value_in layout.some_turtle (first_turtle_vars layout breed) heading_slot) IsNumber
first_heading layout breed = first_under (λ o. IfSome o IsNumber) (turtle_owns layout breed) first_of_turtle layout.some_turtle heading_slot tt refl

pub first_link : (r : Rest) (breed : BreedNumber) → AreVars (fits_rest r) r.layout.some_link (link_owns r.layout breed) (first_link_vars r.layout breed)
first_link r breed = first_are_vars (fits_rest r) (link_owns r.layout breed) first_of_link r.layout.some_link (first_link_fits r)

pub first_patch : (r : Rest) → ArePatchVars r (first_patch_vars r.layout)
first_patch r = first_are_vars (fits_rest r) (λ slot. true) first_of_patch r.layout.every_patch (first_patch_fits r)

pub first_patches_many : (layout : Layout) (shape : Plane) → length (first_patches layout shape) ≡ patches_of shape
first_patches_many layout shape = length-replicate (patches_of shape) (first_patch_vars layout)

pub first_patches_are : (r : Rest) → All (ArePatchVars r) (first_patches r.layout r.shape)
first_patches_are r = All-replicate (ArePatchVars r) (patches_of r.shape) (first_patch_vars r.layout) (first_patch r)

pub zeros_fit : (fits : Plain → Bool) (n : ℕ) → fits zero_value ≡ true → list_all fits (replicate n zero_value) ≡ true
zeros_fit fits zero h = refl
zeros_fit fits (suc n) h = and_from (fits zero_value) (list_all fits (replicate n zero_value)) h (zeros_fit fits n h)
