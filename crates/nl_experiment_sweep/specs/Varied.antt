-- What an experiment varies, and settings: names with values.
use Rattle.std.specs.Prelude.{ℕ, ◌-◌, ◌<◌, ℤ, pos, ◌+ℤ◌, ◌*ℤ◌, ◌<ℤ◌, List, [], ◌∷◌, length, All, Option, Some, None, slice_get, unwrap_or, codes, if◌then◌else◌}
use Rattle.std.specs.Option.{option_map, option_and_then}
use Rattle.std.specs.Str.{bytes_eq}
use Rattle.nl_fixed.specs.Nouns.{Name, Names}
use Rattle.nl_fixed.specs.Numbers.{IsInRange, whole_part}
use Rattle.nl_value.specs.Plain.{Plain, PlainNumber, PlainNobody}
use Rattle.nl_value.specs.Views.{plain}
use Rattle.nl_experiment_sweep.specs.declared.varied.Choice.{Choice}
use Rattle.nl_experiment_sweep.specs.declared.varied.Choice.TheVariants.{Listed, Stepped}
use Rattle.nl_experiment_sweep.specs.declared.varied.Vary.{Vary}
use Rattle.nl_experiment_sweep.specs.declared.varied.Setting.{Setting}

-- a name with a value, without where it lies in memory
pub record PlainSetting : Type 0 where
  pub name : Name
  pub value : Plain

abbrev pub plain_setting : Setting → PlainSetting
plain_setting s = record { name = s.name; value = plain s.value }

-- ---- the values of a choice

abbrev pub count_of : Choice → ℕ
count_of (Listed values) = length values
count_of (Stepped from step count) = count

-- the value at an index, from 0: the numbers of a stepped choice begin at one and grow by the step
abbrev pub value_of : Choice → ℕ → Plain
value_of (Listed values) index = unwrap_or (slice_get values index) PlainNobody
value_of (Stepped from step count) index = PlainNumber (from +ℤ (pos index *ℤ step))

-- a choice has a value at least, and those of a stepped one ascend and are numbers
abbrev pub HasValues : Choice → Type 0
HasValues (Listed values) = 0 < length values
HasValues (Stepped from step count) = (0 < count) × (pos 0 <ℤ step) × IsInRange (from +ℤ (pos (count - 1) *ℤ step))

abbrev pub AllHaveValues : List Vary → Type 0
AllHaveValues vs = All (λ v. HasValues v.choice) vs

-- ---- numbers among settings

-- the count of a value that is a number
abbrev pub count_in : Plain → Option ℤ
count_in (PlainNumber count) = Some count
count_in value = None

-- the value of a name: settings name each of theirs once
abbrev pub setting_among : Name → List PlainSetting → Option Plain
setting_among name [] = None
setting_among name (s ∷ ss) = if bytes_eq s.name name then Some s.value else setting_among name ss

-- the number of a name, in millionths, and as a whole number
abbrev pub number_among : Name → List PlainSetting → Option ℤ
number_among name ss = option_and_then count_in (setting_among name ss)

abbrev pub whole_among : Name → List PlainSetting → Option ℤ
whole_among name ss = option_map whole_part (number_among name ss)

-- ---- what is varied beside widgets

-- the bounds of the world, and the seed of a run
abbrev pub min_pxcor : Name
min_pxcor = codes "min-pxcor"

abbrev pub max_pxcor : Name
max_pxcor = codes "max-pxcor"

abbrev pub min_pycor : Name
min_pycor = codes "min-pycor"

abbrev pub max_pycor : Name
max_pycor = codes "max-pycor"

abbrev pub random_seed : Name
random_seed = codes "random-seed"

abbrev pub bound_names : Names
bound_names = min_pxcor ∷ max_pxcor ∷ min_pycor ∷ max_pycor ∷ []
