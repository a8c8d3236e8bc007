-- What the turns that are left have become.
use Rattle.std.specs.Prelude.{◌≡◌, Bool, true, false, Option, Some, None}
use Rattle.nl_exec_meaning.specs.declared.rounds.Rounds.{Rounds}

-- these turns are left, or none, where the value was of the wrong kind
abbrev pub Told : Bool → Rounds → Option Rounds → Type 0
Told true after told = told ≡ Some after
Told false after told = told ≡ None
