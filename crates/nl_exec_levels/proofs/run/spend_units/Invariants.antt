-- The rest stays, with the units that are left, and what is held fits the world.
use Rattle.std.proofs.Common.{◌≡◌, ℕ, ◌+◌, ◌≤◌, vec_len}
use Rattle.nl_exec_meaning.specs.Seen.{ground, state_of}
use Rattle.nl_exec_levels.specs.Rest.{rest}
use Rattle.nl_exec_levels.specs.Steady.{IsSteady, FocusFits}
use Rattle.nl_exec_levels.proofs.run.spend_units.Given as goal

abbrev pub invariant-spending : goal.invariant-spending
invariant-spending g l = record {
  same : (n : ℕ) → rest l.code l.limit l.levels.items l.focus (state_of l.code.names l.hands (l.left + n)) ≡ rest l.code l.limit l.fn.levels.items l.fn.start (state_of l.code.names l.fn.hands (l.units + n));
  depth : vec_len l.levels ≤ l.limit;
  fewer : l.left ≤ l.units;
  steady : IsSteady l.code l.hands l.levels.items;
  fits : FocusFits (ground l.hands) l.focus;
}

abbrev pub decreases-spending : goal.decreases-spending
decreases-spending g l = l.left
