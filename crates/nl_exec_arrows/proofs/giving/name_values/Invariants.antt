-- The values so far have their names.
use Rattle.std.proofs.Common.{◌≡◌, ◌++◌, ℕ, IsTrue, map, take}
use Rattle.nl_exec_meaning.specs.Calls.{bound}
use Rattle.nl_exec_meaning.specs.Code.{name_of}
use Rattle.nl_exec_meaning.specs.Ground.{Ground, all_fit}
use Rattle.nl_exec_meaning.specs.Kept.{all_held}
use Rattle.nl_exec_meaning.specs.Rounds.{given}
use Rattle.nl_exec_meaning.specs.Standing.{LocalsFit}
use Rattle.nl_exec_arrows.proofs.giving.name_values.Given as goal

abbrev pub invariant-loop-which : goal.invariant-loop-which
invariant-loop-which l =
    let names = map (name_of l.code.names) l.head in
    (all_held l.code.names l.locals ≡ all_held l.code.names l.fn.locals ++ bound (take l.which names) (given l.word l.rounds))
    × ((g : Ground) → IsTrue (all_fit g (given l.word l.rounds)) → LocalsFit g l.fn.locals → LocalsFit g l.locals)
