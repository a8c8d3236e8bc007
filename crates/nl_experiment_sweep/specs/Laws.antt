-- What the order of runs means: laws above the definitions.
use Rattle.std.specs.Prelude.{◌≡◌, ℕ, ◌+◌, ◌-◌, ◌*◌, ◌/◌, ◌%◌, ◌<◌, ◌≤◌, if◌then◌else◌, List, [], ◌∷◌, None}
use Rattle.nl_experiment_sweep.specs.declared.order.Order.{Order}
use Rattle.nl_experiment_sweep.specs.declared.varied.Vary.{Vary}
use Rattle.nl_experiment_sweep.specs.Varied.{AllHaveValues, PlainSetting, count_of, random_seed, value_of, whole_among}
use Rattle.nl_experiment_sweep.specs.Sweep.{IsRun, combination_of, combinations, index_of, most_runs, runs_of, seed_of, settings_in, settings_of}

-- the repetition of a run, from 0
abbrev pub repetition_of : Order → List Vary → ℕ → ℕ
repetition_of order vs run = if order.sequential then (run - 1) % order.repetitions else (run - 1) / combinations vs

-- how many runs stand before that of a combination and a repetition
abbrev pub place_of : Order → List Vary → ℕ → ℕ → ℕ
place_of order vs c r = if order.sequential then c * order.repetitions + r else r * combinations vs + c

-- each run has one combination and one repetition, and stands at their place
pub record HasAPlace (order : Order) (vs : List Vary) (run : ℕ) : Type 0 where
  pub combination : combination_of order vs run < combinations vs
  pub repetition : repetition_of order vs run < order.repetitions
  pub place : run ≡ place_of order vs (combination_of order vs run) (repetition_of order vs run) + 1

abbrev pub EachRunHasAPlace : Type 0
EachRunHasAPlace = (order : Order) (vs : List Vary) (run : ℕ) → AllHaveValues vs → 0 < order.repetitions → IsRun order vs run → HasAPlace order vs run

-- And each of these places is that of one run. So every combination comes as often as there are repetitions.
pub record HasARun (order : Order) (vs : List Vary) (c r : ℕ) : Type 0 where
  pub run : IsRun order vs (place_of order vs c r + 1)
  pub combination : combination_of order vs (place_of order vs c r + 1) ≡ c
  pub repetition : repetition_of order vs (place_of order vs c r + 1) ≡ r

abbrev pub EachPlaceHasARun : Type 0
EachPlaceHasARun = (order : Order) (vs : List Vary) (c r : ℕ) → c < combinations vs → r < order.repetitions → HasARun order vs c r

-- ---- combinations are the choices of one value for each variable

-- an index of a value for each variable
abbrev pub IsChoice : List Vary → List ℕ → Type 0
IsChoice [] [] = Unit {0}
IsChoice (v ∷ vs) (i ∷ is) = (i < count_of v.choice) × IsChoice vs is
IsChoice vs is = ⊥

-- the variables in order, with the values at these indexes
abbrev pub settings_by : List Vary → List ℕ → List PlainSetting
settings_by (v ∷ vs) (i ∷ is) = record { name = v.name; value = value_of v.choice i } ∷ settings_by vs is
settings_by vs is = []

-- the indexes of a combination
abbrev pub indexes_in : ℕ → List Vary → List ℕ
indexes_in combination [] = []
indexes_in combination (v ∷ vs) = index_of combination v vs ∷ indexes_in combination vs

-- the combination of given indexes
pub record IsCombinationOf (vs : List Vary) (is : List ℕ) (combination : ℕ) : Type 0 where
  pub below : combination < combinations vs
  pub indexes : indexes_in combination vs ≡ is
  pub settings : settings_in combination vs ≡ settings_by vs is

-- each choice is that of a combination, which has its settings
abbrev pub SettingsAreTheCombinations : Type 0
SettingsAreTheCombinations = (vs : List Vary) (is : List ℕ) → AllHaveValues vs → IsChoice vs is → (c : ℕ) × IsCombinationOf vs is c

-- each combination is that of a choice
abbrev pub CombinationsAreChoices : Type 0
CombinationsAreChoices = (vs : List Vary) (c : ℕ) → AllHaveValues vs → c < combinations vs → (is : List ℕ) × (IsChoice vs is) × (IsCombinationOf vs is c)

-- and no two combinations are those of one choice
abbrev pub ChoicesHaveOneCombination : Type 0
ChoicesHaveOneCombination =
    (vs : List Vary) (is : List ℕ) (c d : ℕ) → AllHaveValues vs → IsCombinationOf vs is c → IsCombinationOf vs is d → c ≡ d

-- The first variable is the slowest: it keeps a value while the others go through all of their combinations, and then takes its next one.
abbrev pub FirstIsSlowest : Type 0
FirstIsSlowest =
    (v : Vary) (vs : List Vary) (i c : ℕ) → AllHaveValues (v ∷ vs) → i < count_of v.choice → c < combinations vs
    → settings_in (i * combinations vs + c) (v ∷ vs) ≡ record { name = v.name; value = value_of v.choice i } ∷ settings_in c vs

-- ---- seeds

-- a run in which no seed is varied
abbrev pub HasNoSeed : Order → List Vary → ℕ → Type 0
HasNoSeed order vs run = whole_among random_seed (settings_of order vs run) ≡ None

-- any two runs differ in seeds where none is varied
abbrev pub SeedsDiffer : Type 0
SeedsDiffer =
    (order : Order) (vs : List Vary) (seed j k : ℕ) → runs_of order vs ≤ most_runs → IsRun order vs j → IsRun order vs k
    → HasNoSeed order vs j → HasNoSeed order vs k → seed_of order vs seed j ≡ seed_of order vs seed k → j ≡ k
