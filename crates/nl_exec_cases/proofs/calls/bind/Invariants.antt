-- The values so far have the names of the inputs.
use Rattle.std.proofs.Common.{◌≡◌, IsTrue, length, map, take}
use Rattle.nl_value.specs.Views.{plain}
use Rattle.nl_exec_meaning.specs.Code.{inputs_at}
use Rattle.nl_exec_meaning.specs.Calls.{bound}
use Rattle.nl_exec_meaning.specs.Ground.{Ground, all_fit}
use Rattle.nl_exec_meaning.specs.Kept.{all_held}
use Rattle.nl_exec_meaning.specs.Standing.{LocalsFit}
use Rattle.nl_exec_cases.proofs.calls.bind.Given as goal

abbrev pub invariant-loop-value : goal.invariant-loop-value
invariant-loop-value l = record {
  many : length l.locals ≡ l.value-index;
  held : all_held l.code.names l.locals ≡ bound (inputs_at l.code.program l.procedure) (map plain (take l.value-index l.value-items));
  fit : (g : Ground) → IsTrue (all_fit g (map plain (take l.value-index l.value-items))) → LocalsFit g l.locals;
}
