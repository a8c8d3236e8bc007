-- What words see and change: all of the world but its global variables, and beside it the ticks and the state of the random stream.
use Rattle.std.specs.Prelude.{◌≡◌, ℕ, ℤ, [], Option, Result, Ok, Err}
use Rattle.nl_agents.specs.World.{Rest, World}
use Rattle.nl_exec_acts.specs.declared.fail.ActFail.{ActFail}
use Rattle.nl_exec_acts.specs.declared.fail.ActFail.TheVariants.{Error, NoMemory}
use Rattle.nl_exec_acts.specs.declared.fail.ErrorKind.{ErrorKind}

-- ticks are none where they are off, and else a count of millionths
pub record Stage : Type 0 where
  pub rest : Rest
  pub ticks : Option ℤ
  pub stream : ℕ

-- a world without global variables: what a change is asked that touches none
abbrev pub bare : Rest → World
bare r = record { globals = []; rest = r }

-- all but the global variables after a change of the world that touches none
abbrev pub changed_rest : (World → World) → Rest → Rest
changed_rest change r = (change (bare r)).rest

-- the stage after such a change
abbrev pub changed : (World → World) → Stage → Stage
changed change st = record st { rest = changed_rest change st.rest }

-- what a run has: a world with its global variables, the ticks, and the state of the stream
pub record Scene : Type 0 where
  pub world : World
  pub ticks : Option ℤ
  pub stream : ℕ

abbrev pub scene : World → Option ℤ → ℕ → Scene
scene w ticks stream = record { world = w; ticks = ticks; stream = stream }

-- what words see and change of it
abbrev pub stage_of : Scene → Stage
stage_of s = record { rest = s.world.rest; ticks = s.ticks; stream = s.stream }

-- what comes of a word: an answer, or the error that stands in its place. An error leaves the stage as it was.
abbrev pub ActOutcome : Type 0 → Type 0
ActOutcome X = Result X ErrorKind

-- what comes of an outcome and of a next step, which is taken only where the first has an answer
abbrev pub and_then : {X Y : Type 0} → ActOutcome X → (X → ActOutcome Y) → ActOutcome Y
and_then (Ok x) next = next x
and_then (Err error) next = Err error

-- the answer, seen in another way
abbrev pub outcome_map : {X Y : Type 0} → (X → Y) → ActOutcome X → ActOutcome Y
outcome_map f (Ok x) = Ok (f x)
outcome_map f (Err error) = Err error

-- what a call gives, seen in this way, is the outcome, unless it wants memory
abbrev pub Gives : {X Y : Type 0} → (X → Y) → Result X ActFail → ActOutcome Y → Type 0
Gives seen (Ok x) outcome = outcome ≡ Ok (seen x)
Gives seen (Err (Error error)) outcome = outcome ≡ Err error
Gives seen (Err NoMemory) outcome = Unit {0}

-- ---- what comes of a change of a world that touches no global variable

-- the world after it
abbrev pub left_by : World → ActOutcome Rest → World
left_by w (Ok r) = record w { rest = r }
left_by w (Err error) = w

-- what is told of it
abbrev pub done_or_not : ActOutcome Rest → ActOutcome (Unit {0})
done_or_not (Ok r) = Ok tt
done_or_not (Err error) = Err error

-- the world after a call that may want memory
abbrev pub Leaves : Result (Unit {0}) ActFail → World → World → ActOutcome Rest → Type 0
Leaves result w after outcome = Gives (λ done. after) result (outcome_map (λ r. record w { rest = r }) outcome)
