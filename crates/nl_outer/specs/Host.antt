-- What the forms of the host show of themselves.
use Rattle.std.specs.Prelude.{ℕ, [], Option}
use Rattle.nl_fixed.specs.Nouns.{Bytes}
use Rattle.nl_outer.specs.Nouns.{Path}
use Rattle.nl_outer.specs.Faults.{counted}

-- what files show: how many faults there were, and the path of the last one, empty before any
pub record HostFaults : Type 0 where
  pub faults : ℕ
  pub last_fault : Path

abbrev pub no_faults : HostFaults
no_faults = record { faults = 0; last_fault = [] }

-- one more fault, at this path
abbrev pub failed_at : HostFaults → Path → HostFaults
failed_at s path = record { faults = counted s.faults; last_fault = path }

-- what a stream shows: how many faults there were, and the bytes that its writer holds, where it tells them
pub record StreamState : Type 0 where
  pub contents : Option Bytes
  pub faults : ℕ
