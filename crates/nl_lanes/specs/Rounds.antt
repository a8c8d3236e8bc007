-- Lists of turns, and rounds: turns of all lanes in order, until all runs have ended.
use Rattle.std.specs.Prelude.{ℕ, zero, suc, ◌+◌, ◌==◌, List, [], ◌∷◌, ◌++◌, Bool, Option, Some, None, drop, length, map, if◌then◌else◌}
use Rattle.nl_lanes.specs.Runs.{LoneRuns, up_to}
use Rattle.nl_lanes.specs.Turns.{Held, Standing, turned}

-- a lane gets units
pub record Turn : Type 0 where
  pub lane : ℕ
  pub units : ℕ

-- what turns leave, and the numbers of the runs that ended in them, in order
pub record Ran : Type 0 where
  pub standing : Standing
  pub given : List ℕ

-- the number of a run that ended, before others
abbrev pub before : Option ℕ → List ℕ → List ℕ
before None numbers = numbers
before (Some number) numbers = number ∷ numbers

-- what comes behind a turn
abbrev pub behind : Option ℕ → Ran → Ran
behind gives r = record r { given = before gives r.given }

-- turns, one after another
abbrev pub turns : LoneRuns → List Turn → Standing → Ran
turns list [] s = record { standing = s; given = [] }
turns list (t ∷ ts) s =
    behind (turned list t.lane t.units s).gives (turns list ts (turned list t.lane t.units s).standing)

-- a turn of each lane, in order, with as many units each
abbrev pub turns_of_a_round : ℕ → ℕ → List Turn
turns_of_a_round lanes units = map (λ lane. record { lane = lane; units = units }) (up_to lanes)

-- a round: each lane gets as many units
unfoldable pub round : LoneRuns → ℕ → Standing → Ran
round list units s = turns list (turns_of_a_round (length s.lanes) units) s

-- all runs have ended
abbrev pub all_ended : LoneRuns → Standing → Bool
all_ended list s = s.ended == length list

-- rounds until all runs have ended, and at most so many
abbrev pub rounds_from : ℕ → LoneRuns → ℕ → Standing → Ran
rounds_from zero list units s = record { standing = s; given = [] }
rounds_from (suc most) list units s =
    if all_ended list s
    then record { standing = s; given = [] }
    else (let one = round list units s in let rest = rounds_from most list units one.standing in
    record rest { given = one.given ++ rest.given })

-- how many units runs want, and one more for each of them
abbrev pub left_in_lanes : List (Option Held) → ℕ
left_in_lanes [] = 0
left_in_lanes (None ∷ lanes) = left_in_lanes lanes
left_in_lanes (Some held ∷ lanes) = held.wants + 1 + left_in_lanes lanes

abbrev pub left_of : LoneRuns → ℕ
left_of [] = 0
left_of (r ∷ rs) = r.units + 1 + left_of rs

-- a number of rounds that is enough: as many as the units that are still wanted, and one more for each run that hasn't ended
unfoldable pub left : LoneRuns → Standing → ℕ
left list s = left_in_lanes s.lanes + left_of (drop s.begun list)

-- rounds until all runs have ended
unfoldable pub rounds : LoneRuns → ℕ → Standing → Ran
rounds list units s = rounds_from (left list s) list units s
