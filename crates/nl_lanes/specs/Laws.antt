-- What turns and rounds mean: laws above the definitions.
use Rattle.std.specs.Prelude.{◌≡◌, ℕ, ◌+◌, ◌==◌, ◌≤◌, List, [], ◌∷◌, ◌++◌, true, Option, Some, None, All, length, map, if◌then◌else◌}
use Rattle.std.specs.List.Sorted.{IsPermutation}
use Rattle.nl_fixed.specs.Nouns.{Texts}
use Rattle.nl_lanes.specs.Runs.{LoneRuns, texts_of, up_to}
use Rattle.nl_lanes.specs.Turns.{Held, Standing, first_standing}
use Rattle.nl_lanes.specs.Rounds.{Ran, Turn, all_ended, left, rounds, rounds_from, turns}
use Rattle.nl_lanes.specs.Pools.{IsSound}

-- a turn is one of these lanes
abbrev pub IsOfLanes : ℕ → Turn → Type 0
IsOfLanes lanes t = (1 ≤ t.lane) × (t.lane ≤ lanes)

-- the numbers of the runs in lanes, in order of the lanes
abbrev pub numbers_in : List (Option Held) → List ℕ
numbers_in [] = []
numbers_in (None ∷ lanes) = numbers_in lanes
numbers_in (Some held ∷ lanes) = held.number ∷ numbers_in lanes

-- how often a number stands in a list
abbrev pub times : ℕ → List ℕ → ℕ
times number [] = 0
times number (n ∷ ns) = (if n == number then 1 else 0) + times number ns

-- what turns of a new pool leave and give
abbrev pub turns_of : LoneRuns → ℕ → List Turn → Ran
turns_of list lanes ts = turns list ts (first_standing lanes)

-- the texts of all runs, in order
abbrev pub all_texts : LoneRuns → Texts
all_texts list = map (λ r. r.text) list

-- ---- lists of turns, of any lanes and with any units

-- each run that has begun has either given its text or is in a lane, and each of them is there once
abbrev pub RunsAreOnce : Type 0
RunsAreOnce =
    (list : LoneRuns) (lanes : ℕ) (ts : List Turn) → All (IsOfLanes lanes) ts
    → let r = turns_of list lanes ts in
    IsPermutation (r.given ++ numbers_in r.standing.lanes) (up_to r.standing.begun)

-- a text is given of no run but those of the list
abbrev pub TextsAreOfRuns : Type 0
TextsAreOfRuns =
    (list : LoneRuns) (lanes : ℕ) (ts : List Turn) → All (IsOfLanes lanes) ts
    → All (λ number. (1 ≤ number) × (number ≤ length list)) (turns_of list lanes ts).given

-- no run's text is given twice
abbrev pub NoTextTwice : Type 0
NoTextTwice =
    (list : LoneRuns) (lanes : ℕ) (ts : List Turn) → All (IsOfLanes lanes) ts
    → (number : ℕ) → times number (turns_of list lanes ts).given ≤ 1

-- as many texts are given as runs have ended
abbrev pub EndedGive : Type 0
EndedGive =
    (list : LoneRuns) (lanes : ℕ) (ts : List Turn) → All (IsOfLanes lanes) ts
    → length (turns_of list lanes ts).given ≡ (turns_of list lanes ts).standing.ended

-- where all runs have ended, the texts are those of all runs, each of them once
abbrev pub AllEndedGiveAll : Type 0
AllEndedGiveAll =
    (list : LoneRuns) (lanes : ℕ) (ts : List Turn) → All (IsOfLanes lanes) ts
    → let r = turns_of list lanes ts in
    all_ended list r.standing ≡ true → IsPermutation (texts_of list r.given) (all_texts list)

-- one lane gives the texts in order
abbrev pub OneLaneIsInOrder : Type 0
OneLaneIsInOrder =
    (list : LoneRuns) (ts : List Turn) → All (IsOfLanes 1) ts
    → (turns_of list 1 ts).given ≡ up_to (turns_of list 1 ts).standing.ended

-- ---- rounds

-- rounds are turns
abbrev pub RoundsAreTurns : Type 0
RoundsAreTurns =
    (list : LoneRuns) (units : ℕ) (s : Standing)
    → (ts : List Turn) × All (IsOfLanes (length s.lanes)) ts × (rounds list units s ≡ turns list ts s)

-- they go on until all runs have ended
abbrev pub RoundsEndAll : Type 0
RoundsEndAll =
    (list : LoneRuns) (units : ℕ) (s : Standing) → 1 ≤ units → IsSound list s
    → all_ended list (rounds list units s).standing ≡ true

-- it makes no difference how many rounds are allowed, as long as they are as many as the units that are left
abbrev pub UnitsBoundRounds : Type 0
UnitsBoundRounds =
    (most : ℕ) (list : LoneRuns) (units : ℕ) (s : Standing) → 1 ≤ units → IsSound list s → left list s ≤ most
    → rounds_from most list units s ≡ rounds list units s

-- what the rounds of a new pool give
abbrev pub texts_by_rounds : LoneRuns → ℕ → ℕ → Texts
texts_by_rounds list lanes units = texts_of list (rounds list units (first_standing lanes)).given

-- they give the texts of all runs, each of them once
abbrev pub RoundsGiveAll : Type 0
RoundsGiveAll =
    (list : LoneRuns) (lanes units : ℕ) → 1 ≤ lanes → 1 ≤ units
    → IsPermutation (texts_by_rounds list lanes units) (all_texts list)

-- in order with one lane
abbrev pub OneLaneGivesInOrder : Type 0
OneLaneGivesInOrder = (list : LoneRuns) (units : ℕ) → 1 ≤ units → texts_by_rounds list 1 units ≡ all_texts list

-- and in order with any number of lanes, where a turn has units enough for each run
abbrev pub EnoughUnitsGiveInOrder : Type 0
EnoughUnitsGiveInOrder =
    (list : LoneRuns) (lanes units : ℕ) → 1 ≤ lanes → 1 ≤ units → All (λ r. r.units ≤ units) list
    → texts_by_rounds list lanes units ≡ all_texts list
