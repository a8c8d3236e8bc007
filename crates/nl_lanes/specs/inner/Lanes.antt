-- The lanes of a pool, as they are kept.
use Rattle.std.specs.Prelude.{◌≡◌, ℕ, ◌+◌, ◌-◌, ◌≤◌, ◌<◌, List, Bool, false, Option, Some, None, length, map, take, All}
use Rattle.std.specs.Option.{option_map}
use Rattle.nl_lanes.specs.Runs.{LoneRuns, run_of}
use Rattle.nl_lanes.specs.Turns.{Held}
use Rattle.nl_lanes.specs.Pools.{held_count}
use Rattle.nl_lanes.specs.declared.lane.Lane.{Ghosts}
use Rattle.nl_lanes.specs.declared.held.OpenRun.{OpenRun}
use Rattle.nl_lanes.specs.declared.held.Advanced.{Advanced}
use Rattle.nl_lanes.specs.declared.held.Advanced.TheVariants.{Open, Ended}

-- a run in a lane
abbrev pub held : {R : Type 0} (G : Ghosts R) → OpenRun R → Held
held G r = record { number = r.number; wants = G.wants r.run }

abbrev pub held_all : {R : Type 0} (G : Ghosts R) → List (Option (OpenRun R)) → List (Option Held)
held_all G lanes = map (option_map (held G)) lanes

-- The run is one of the list, and it is on its way to that one's text.
pub record IsOf {R : Type 0} (G : Ghosts R) (list : LoneRuns) (r : OpenRun R) : Type 0 where
  pub going : G.has_ended r.run ≡ false
  pub text : G.lone_text r.run ≡ (run_of list r.number).text

-- so it is of what is in a lane
abbrev pub IsIn : {R : Type 0} (G : Ghosts R) → LoneRuns → Option (OpenRun R) → Type 0
IsIn G list None = Unit {0}
IsIn G list (Some r) = IsOf G list r

-- What a pool keeps: its runs are some of the maker's; there is a lane; each run in a lane is on its way to its text; and no more runs have ended
-- or are in lanes than have begun, and just as many where memory wasn't wanting.
pub record IsWhole {R : Type 0} (G : Ghosts R) (runs : ℕ) (list : LoneRuns) (lanes : List (Option (OpenRun R))) (begun ended : ℕ)
    (failed : Bool) : Type 0 where
  pub runs_within : runs ≤ length list
  pub begun_within : begun ≤ runs
  pub some : 1 ≤ length lanes
  pub own : All (IsIn G (take runs list)) lanes
  pub most : held_count (held_all G lanes) + ended ≤ begun
  pub just : failed ≡ false → held_count (held_all G lanes) + ended ≡ begun

-- what a run is after a turn of so many units
pub record IsStillOf {R : Type 0} (G : Ghosts R) (units : ℕ) (old new : OpenRun R) : Type 0 where
  pub number : new.number ≡ old.number
  pub beyond : units < G.wants old.run
  pub wants : G.wants new.run ≡ G.wants old.run - units
  pub going : G.has_ended new.run ≡ false
  pub text : G.lone_text new.run ≡ G.lone_text old.run

abbrev pub IsAdvanced : {R : Type 0} (G : Ghosts R) → ℕ → OpenRun R → Advanced R → Type 0
IsAdvanced G units old (Open new) = IsStillOf G units old new
IsAdvanced G units old (Ended text) = (G.wants old.run ≤ units) × (text ≡ G.lone_text old.run)
