-- Turns of lanes: a lane without a run takes the least one that hasn't begun, and its run gets units.
use Rattle.std.specs.Prelude.{ℕ, ◌+◌, ◌-◌, ◌&&◌, List, Option, Some, None, get_or, set, length, replicate, is_none, nat_le, nat_lt, if◌then◌else◌}
use Rattle.nl_lanes.specs.Runs.{LoneRuns, run_of}

-- a run in a lane: its number, counted from 1, and how many units it still wants
pub record Held : Type 0 where
  pub number : ℕ
  pub wants : ℕ

-- what is in lanes 1, 2 and so on; how many runs have begun, which are those of the least numbers; and how many of them have ended
pub record Standing : Type 0 where
  pub lanes : List (Option Held)
  pub begun : ℕ
  pub ended : ℕ

-- so many lanes, all of them free
abbrev pub first_standing : ℕ → Standing
first_standing lanes = record { lanes = replicate lanes None; begun = 0; ended = 0 }

-- what is in a lane
abbrev pub held_in : Standing → ℕ → Option Held
held_in s lane = get_or s.lanes (lane - 1) None

-- something else is in a lane
abbrev pub with_held : Standing → ℕ → Option Held → Standing
with_held s lane held = record s { lanes = set s.lanes (lane - 1) held }

-- the run of a number, before its first unit
abbrev pub first_held : LoneRuns → ℕ → Held
first_held list number = record { number = number; wants = (run_of list number).units }

-- a lane without a run takes the least one that hasn't begun, if there is one
abbrev pub taken : LoneRuns → ℕ → Standing → Standing
taken list lane s =
    if is_none (held_in s lane) && nat_lt s.begun (length list)
    then record (with_held s lane (Some (first_held list (s.begun + 1)))) { begun = s.begun + 1 }
    else s

-- what a turn leaves, and the number of the run that ended in it, if one did
pub record Turned : Type 0 where
  pub standing : Standing
  pub gives : Option ℕ

-- a run gets units: it ends where it wants at most so many, and the lane is then free
abbrev pub advanced : ℕ → ℕ → Held → Standing → Turned
advanced lane units held s =
    if nat_le held.wants units
    then record { standing = record (with_held s lane None) { ended = s.ended + 1 }; gives = Some held.number }
    else record {
      standing = with_held s lane (Some (record held { wants = held.wants - units }));
      gives = None;
    }

-- the run in a lane gets units, if there is one
abbrev pub advanced_in : ℕ → ℕ → Option Held → Standing → Turned
advanced_in lane units None s = record { standing = s; gives = None }
advanced_in lane units (Some held) s = advanced lane units held s

abbrev pub worked : ℕ → ℕ → Standing → Turned
worked lane units s = advanced_in lane units (held_in s lane) s

-- one turn of a lane
unfoldable pub turned : LoneRuns → ℕ → ℕ → Standing → Turned
turned list lane units s = worked lane units (taken list lane s)
