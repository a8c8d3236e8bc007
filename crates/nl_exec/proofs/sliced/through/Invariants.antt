-- What the slices so far leave of the text.
use Rattle.std.proofs.Common.{◌≡◌, ℕ, ◌+◌, ◌-◌, ◌≤◌, length}
use Rattle.std.specs.List.{sum}
use Rattle.nl_exec_meaning.specs.LoneTexts.{scene_in}
use Rattle.nl_exec_meaning.specs.State.{Budget}
use Rattle.nl_exec.specs.Machines.{IsOpen, form_of, program_of, rest_of, scene_of, spent_of, units_left}
use Rattle.nl_exec.proofs.sliced.through.Given as goal

abbrev pub invariant-slices : goal.invariant-slices
invariant-slices g l = record {
  running : IsOpen l.machine;
  rest : (n : ℕ) → rest_of l.machine n ≡ rest_of l.fn.machine ((spent_of l.machine - spent_of l.fn.machine) + n);
  spent : spent_of l.machine + sum l.left ≡ spent_of l.fn.machine + sum l.slices;
  rises : spent_of l.fn.machine ≤ spent_of l.machine;
  bounded : units_left l.machine + spent_of l.machine ≡ units_left l.fn.machine + spent_of l.fn.machine;
  form : form_of l.machine ≡ form_of l.fn.machine;
  program : program_of l.machine ≡ program_of l.fn.machine;
  stands : (l.left ≡ l.slices → ⊥) → scene_in (rest_of l.machine 0).state ≡ scene_of l.machine;
  cut : (l.left ≡ l.slices → ⊥) → (rest_of l.machine 0).exit ≡ Budget;
}

abbrev pub decreases-slices : goal.decreases-slices
decreases-slices g l = length l.left
