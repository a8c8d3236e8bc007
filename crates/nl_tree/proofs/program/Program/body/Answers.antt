use Rattle.std.proofs.Common.{subst, ap, ◌∙◌}
use Rattle.std.specs.Prelude.{slice_get}
use Rattle.nl_tree.specs.Checked.{IsProgram}
use Rattle.nl_tree.proofs.Slots.{body_has_slots}
use Rattle.nl_tree.proofs.program.Program.body.Goals as goal

pub returns-clause-checked : goal.returns-clause-checked
returns-clause-checked c = subst IsProgram c.self.view_is c.self.invariant.0

pub returns-clause-slots : goal.returns-clause-slots
returns-clause-slots c = let is = subst IsProgram c.self.view_is c.self.invariant.0 in body_has_slots c.args.self.now.declared c.args.self.now.bodies c.args.procedure c.get.result (c.get.ensures.value ∙ ap (λ v. slice_get v.bodies c.args.procedure) c.self.view_is) is.2
