use Rattle.std.proofs.Common.{subst}
use Rattle.nl_tree.specs.Checked.{IsProgram}
use Rattle.nl_tree.proofs.program.Program.declared.Goals as goal

pub returns-clause-checked : goal.returns-clause-checked
returns-clause-checked c = subst IsProgram c.self.view_is c.self.invariant.0
