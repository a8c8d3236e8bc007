-- Laws that meanings keep.
use Rattle.std.specs.Prelude.{ℕ, ◌≤◌}
use Rattle.nl_tree.specs.Checked.{Checked}
use Rattle.nl_tree.specs.Tree.{Node}
use Rattle.nl_exec_meaning.specs.Meaning.{evaluator}
use Rattle.nl_exec_meaning.specs.State.{State, Eval}

-- no evaluation gives back more units than it was given
abbrev pub Thrifty : Eval → Type 0
Thrifty prev = (t : Node) (s : State) → (prev t s).state.units ≤ s.units

-- that of no program does, with whatever room for nesting
abbrev pub NoUnitsComeBack : Type 0
NoUnitsComeBack = (p : Checked) (room : ℕ) → Thrifty (evaluator p room)
