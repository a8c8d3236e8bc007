-- What a pool shows.
use Rattle.std.specs.Prelude.{◌≡◌, ◌≤◌, ℕ, ◌+◌, List, [], ◌∷◌, Bool, true, false, Option, Some, None, length}
use Rattle.std.specs.List.{concat}
use Rattle.std.specs.Option.{option_map}
use Rattle.nl_fixed.specs.Nouns.{Bytes}
use Rattle.nl_lanes.specs.Runs.{LoneRuns, run_of, texts_of}
use Rattle.nl_lanes.specs.Turns.{Held, Standing, first_standing}
use Rattle.nl_lanes.specs.Rounds.{rounds}

-- the runs, what is done of them, and whether memory was wanting
pub record Shown : Type 0 where
  pub list : LoneRuns
  pub standing : Standing
  pub failed : Bool

-- a new pool
abbrev pub first_shown : LoneRuns → ℕ → Shown
first_shown list lanes = record { list = list; standing = first_standing lanes; failed = false }

-- how many runs are in lanes
abbrev pub held_count : List (Option Held) → ℕ
held_count [] = 0
held_count (None ∷ lanes) = held_count lanes
held_count (Some held ∷ lanes) = held_count lanes + 1

-- where no run was lost: each one that has begun is in a lane or has ended, and there is a lane to work in
pub record IsSound (list : LoneRuns) (s : Standing) : Type 0 where
  pub begun : held_count s.lanes + s.ended ≡ s.begun
  pub within : s.begun ≤ length list
  pub some : 1 ≤ length s.lanes

-- memory was wanting
abbrev pub HasFailed : Shown → Type 0
HasFailed p = p.failed ≡ true

-- the text that a turn gives, if it gives one
abbrev pub text_given : LoneRuns → Option ℕ → Option Bytes
text_given list gives = option_map (λ number. (run_of list number).text) gives

-- the texts of runs, by their numbers, one behind the other
abbrev pub bytes_of : LoneRuns → List ℕ → Bytes
bytes_of list numbers = concat (texts_of list numbers)

-- the texts that the rounds of a pool give
abbrev pub rounds_bytes : Shown → ℕ → Bytes
rounds_bytes p units = bytes_of p.list (rounds p.list units p.standing).given
