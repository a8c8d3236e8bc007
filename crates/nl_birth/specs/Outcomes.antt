-- What becomes of births and of the making of links.
use Rattle.std.specs.Prelude.{◌≡◌, ℕ, ◌≤◌, Result, Ok, Err, nat_le, if◌then◌else◌}
use Rattle.std.specs.List.{range_with_len}
use Rattle.nl_value.specs.Nouns.{Serials}
use Rattle.nl_agents.specs.declared.refusals.BearFail.{BearFail}
use Rattle.nl_agents.specs.declared.refusals.BearFail.TheVariants as bear
use Rattle.nl_agents.specs.declared.refusals.TieFail.{TieFail}
use Rattle.nl_agents.specs.declared.refusals.TieFail.TheVariants as tie
use Rattle.nl_birth.specs.declared.failing.BirthFail.{BirthFail}
use Rattle.nl_birth.specs.declared.failing.BirthFail.TheVariants.{TooMany, LinkFault, NoMemory}

-- All were made, with these serials; or as many as fit, and one more had to be made; or nothing was, since it may not be. What it
-- leaves stands beside.
pub data BirthOutcome (X : Type 0) : Type 0 where
  Made : Serials → X → BirthOutcome X
  Filled : X → BirthOutcome X
  Refused : X → BirthOutcome X

-- So many are to be made where there is room for so many, the next serial is `first`, and `after` says what each number of them
-- leaves: their serials are the next ones, in order.
abbrev pub outcome_of : {X : Type 0} → (ℕ → X) → (room first count : ℕ) → BirthOutcome X
outcome_of after room first count = if nat_le count room then Made (range_with_len first count) (after count) else Filled (after room)

-- All were made, with some serials, and this is left.
abbrev pub IsMade : {X : Type 0} → BirthOutcome X → X → Type 0
IsMade outcome now = (made : Serials) × (outcome ≡ Made made now)

-- Memory was refused after some of them were made.
pub record IsCutShort {X : Type 0} (after : ℕ → X) (most : ℕ) (now : X) : Type 0 where
  pub made : ℕ
  pub few : made ≤ most
  pub leaves : now ≡ after made

-- A call that came to this outcome, or that memory cut short after some of what `after` says, of `most` at the most.
abbrev pub IsOutcome : {X : Type 0} → BirthOutcome X → (ℕ → X) → ℕ → Result Serials BirthFail → X → Type 0
IsOutcome outcome after most (Ok made) now = outcome ≡ Made made now
IsOutcome outcome after most (Err TooMany) now = outcome ≡ Filled now
IsOutcome outcome after most (Err LinkFault) now = outcome ≡ Refused now
IsOutcome outcome after most (Err NoMemory) now = IsCutShort after most now

-- A call that makes one at the most, and gives no serials, and came to this outcome. What it leaves where memory is refused is said beside.
abbrev pub IsOutcomeOfOne : {X : Type 0} → BirthOutcome X → Result (Unit {0}) BirthFail → X → Type 0
IsOutcomeOfOne outcome (Ok _) now = IsMade outcome now
IsOutcomeOfOne outcome (Err TooMany) now = outcome ≡ Filled now
IsOutcomeOfOne outcome (Err LinkFault) now = outcome ≡ Refused now
IsOutcomeOfOne outcome (Err NoMemory) now = Unit {0}

-- ---- refusals of a store

abbrev pub fail_of_bear : BearFail → BirthFail
fail_of_bear bear.Full = TooMany
fail_of_bear bear.NoMemory = NoMemory

abbrev pub fail_of_tie : TieFail → BirthFail
fail_of_tie tie.Full = TooMany
fail_of_tie tie.NoMemory = NoMemory
