-- What runs come to where each of them runs alone.
use Rattle.std.specs.Prelude.{ℕ, zero, suc, ◌-◌, ◌+◌, List, [], ◌∷◌, ◌++◌, get_or, map}
use Rattle.nl_fixed.specs.Nouns.{Bytes, Texts}

-- the text that a run gives in the end, and how many units it wants for that
pub record LoneRun : Type 0 where
  pub text : Bytes
  pub units : ℕ

-- those of numbers 1, 2 and so on
abbrev pub LoneRuns : Type 0
LoneRuns = List LoneRun

-- the run of a number
abbrev pub run_of : LoneRuns → ℕ → LoneRun
run_of list number = get_or list (number - 1) (record { text = []; units = 0 })

-- the texts of runs, by their numbers
abbrev pub texts_of : LoneRuns → List ℕ → Texts
texts_of list numbers = map (λ number. (run_of list number).text) numbers

-- the numbers from 1 to this one, in order
abbrev pub up_to : ℕ → List ℕ
up_to zero = []
up_to (suc n) = up_to n ++ (n + 1) ∷ []
