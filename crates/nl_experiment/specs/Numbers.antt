-- Numbers of runs as words.
use Rattle.std.specs.Prelude.{ℕ, ◌+◌, ◌*◌, ◌-◌, nat_le, ◌&&◌, if◌then◌else◌, IsTrue, [], ◌∷◌, Result, Ok, Err}
use Rattle.std.specs.Char.{is_ascii_digit}
use Rattle.std.specs.List.{list_all}
use Rattle.nl_fixed.specs.Nouns.{Bytes}
use Rattle.nl_experiment_keys.specs.declared.faults.PlanKind.{PlanKind}
use Rattle.nl_experiment_keys.specs.declared.faults.PlanKind.TheVariants.{NoSuchRun}

-- the number that digits write behind others
abbrev pub number_behind : ℕ → Bytes → ℕ
number_behind n [] = n
number_behind n (digit ∷ digits) = number_behind (10 * n + (digit - 48)) digits

abbrev pub number_of : Bytes → ℕ
number_of digits = number_behind 0 digits

abbrev pub AreDigits : Bytes → Type 0
AreDigits word = IsTrue (list_all is_ascii_digit word)

-- the run that a number names among so many
abbrev pub run_among : ℕ → ℕ → Result ℕ PlanKind
run_among runs n = if nat_le 1 n && nat_le n runs then Ok n else Err NoSuchRun
