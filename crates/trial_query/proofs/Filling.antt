-- Lists of values that fit.
use Rattle.std.specs.Prelude.{◌≡◌, ℕ, zero, suc, ℤ, ◌&&◌, true, List, replicate, refl}
use Rattle.std.proofs.Common.{ap, sym, ◌∙◌}
use Rattle.nl_value.specs.Plain.{Plain, PlainNumber, PlainItems, plains}
use Rattle.nl_agents.specs.World.{Rest}
use Rattle.nl_agents.specs.Standing.{fits_rest}
use Rattle.nl_agentset_query.specs.Inputs.{inputs_fit}
use Rattle.nl_agentset_query.proofs.Fitting.{list_fits_as_items}

-- as a value, and as an item
pub as_value : (r : Rest) (items : List Plain) → inputs_fit r items ≡ true → fits_rest r (PlainItems (plains items)) ≡ true
as_value r items fit = sym (list_fits_as_items r items) ∙ fit

pub as_item : (r : Rest) (items : List Plain) → inputs_fit r items ≡ true → (fits_rest r (PlainItems (plains items)) && true) ≡ true
as_item r items fit = ap (λ b. b && true) (as_value r items fit)

-- one number, so many times
pub filled_fit : (r : Rest) (many : ℕ) (count : ℤ) → inputs_fit r (replicate many (PlainNumber count)) ≡ true
filled_fit r zero count = refl
filled_fit r (suc many) count = filled_fit r many count
