-- The rest stays, what is held fits the world, and the work that can be done without a unit falls.
use Rattle.std.proofs.Common.{◌≡◌, ℕ, ◌≤◌, vec_len}
use Rattle.nl_exec_meaning.specs.Seen.{ground, state_of}
use Rattle.nl_exec_levels.specs.Rest.{rest}
use Rattle.nl_exec_levels.specs.Steady.{IsSteady, FocusFits}
use Rattle.nl_exec_levels.specs.Work.{total_work}
use Rattle.nl_exec_levels.proofs.run.settle.Given as goal

abbrev pub invariant-loop-focus : goal.invariant-loop-focus
invariant-loop-focus g l = record {
  same : (n : ℕ) → rest l.code l.limit l.levels.items l.focus (state_of l.code.names l.hands n) ≡ rest l.code l.limit l.fn.levels.items l.fn.start (state_of l.code.names l.fn.hands n);
  depth : vec_len l.levels ≤ l.limit;
  steady : IsSteady l.code l.hands l.levels.items;
  fits : FocusFits (ground l.hands) l.focus;
}

abbrev pub decreases-loop-focus : goal.decreases-loop-focus
decreases-loop-focus g l = total_work l.code l.levels.items l.focus
