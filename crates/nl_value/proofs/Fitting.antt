-- What fits: lists by their items, and every value where both tests pass everything.
use Rattle.std.specs.Prelude.{◌≡◌, ℕ, Bool, true, ◌&&◌, List, [], ◌∷◌, refl}
use Rattle.std.proofs.Common.{ap}
use Rattle.std.specs.List.{list_all}
use Rattle.nl_value.specs.declared.sets.AgentSet.{AgentSet}
use Rattle.nl_value.specs.Plain.{Plain, Plains, PlainItems, PlainPatch, PlainSet, no_items, item_then, plains}
use Rattle.nl_value.specs.Fit.{value_fits, values_fit}
use Rattle.nl_value.specs.Living.{fits, no_life}

module _ (patch : ℕ → Bool) (set : AgentSet → Bool) where
  pub values_fit-plains : (ps : List Plain) → values_fit patch set (plains ps) ≡ list_all (value_fits patch set) ps
  values_fit-plains [] = refl
  values_fit-plains (p ∷ ps) = ap (λ b. value_fits patch set p && b) (values_fit-plains ps)

  module _ (patches : (n : ℕ) → patch n ≡ true) (sets : (s : AgentSet) → set s ≡ true) where
    mutual
      pub value_fits-all : (p : Plain) → value_fits patch set p ≡ true
      value_fits-all (PlainItems items) = values_fit-all items
      value_fits-all (PlainPatch n) = patches n
      value_fits-all (PlainSet s) = sets s
      value_fits-all p = refl

      values_fit-all : (ps : Plains) → values_fit patch set ps ≡ true
      values_fit-all no_items = refl
      values_fit-all (item_then p ps) = rw (value_fits-all p) (values_fit-all ps)

pub fits_no_life : (p : Plain) → fits no_life p ≡ true
fits_no_life = value_fits-all no_life.patch_fits no_life.set_fits (λ n. refl) (λ s. refl)
