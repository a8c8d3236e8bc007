-- When all agents of records are in their chains.
use Rattle.std.specs.Prelude.{◌≡◌, ℕ, ◌<◌, Bool, true, Option, is_some}
use Rattle.nl_grid.specs.Geometry.{Plane}
use Rattle.nl_store_records.specs.declared.record.Record.{Record}
use Rattle.nl_index.specs.Index.{IsIndex, IsSized, Lists, serial_at}
use Rattle.nl_index.specs.declared.chains.Chains.{Chains}

-- the key is held
abbrev pub held : (ℕ → Option Record) → ℕ → Bool
held at key = is_some (at key)

pub record IsFiling (chains : Chains) (at : ℕ → Option Record) (shape : Plane) (breeds next : ℕ) : Type 0 where
  pub lists : Lists
  pub index : IsIndex chains at (held at) lists
  pub below : (key : ℕ) → held at key ≡ true → serial_at at key < next
  pub sized : IsSized shape breeds chains
