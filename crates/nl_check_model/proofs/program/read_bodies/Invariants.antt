use Rattle.std.proofs.Common.{take}
use Rattle.nl_tree.specs.Vocabulary.{terms}
use Rattle.nl_check_model.specs.ModelFault.{AreBodies}
use Rattle.nl_check_model.proofs.program.read_bodies.Given as goal

-- the trees of the procedures so far
abbrev pub invariant-procedures : goal.invariant-procedures
invariant-procedures l = AreBodies l.source.text.now l.source.tokens.now (terms l.declared) (take l.procedure-index l.declared.procedures) l.bodies
