use Rattle.std.proofs.Common.{◌≤◌, ◌+◌, ◌*◌, length, drop}
use Rattle.nl_tree.specs.Names.{procedures_names}
use Rattle.trial_decl.proofs.indexes.assert_few_procedures.Given as goal

abbrev pub invariant-procedures : goal.invariant-procedures
invariant-procedures g l = length (procedures_names l.procedures) ≤ 10001 * l.procedure-index + length (procedures_names (drop l.procedure-index l.procedures))
