use Rattle.std.proofs.Common.{arith}
use Rattle.nl_tree.proofs.Counting.{few_globals}
use Rattle.nl_tree.proofs.program.Program.find_global.Goals as goal

pub overflow_add-result : goal.overflow_add-result
overflow_add-result c = omega (arith, c.self.invariant.3, few_globals c.self.inside.declared c.self.invariant.0.0)
