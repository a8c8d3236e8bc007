-- The body of a procedure is a list of statements, which wants a unit.
use Rattle.std.proofs.Common.{ap, ◌∙◌, sym, arith}
use Rattle.nl_tree.specs.Tree.{parts}
use Rattle.nl_tree.specs.declared.tree.Label.{Label}
use Rattle.nl_exec_meaning.specs.Code.{node_at}
use Rattle.nl_exec_meaning.specs.Weight.{weight_by, weights}
use Rattle.nl_exec_meaning.proofs.Weights.{weight_out}
use Rattle.nl_exec_cases.proofs.calls.call.Goals as goal

pub returns-clause-falls : goal.returns-clause-falls
returns-clause-falls g c =
    let t = node_at c.args.code.now c.in-Some-Some.body in
    let is = c.requires.sound.bodies c.args.procedure t (sym c.in-Some-Some.ensures') in
    let light = weight_out t ∙ ap (λ (l : Label). weight_by l (weights (parts t))) is in
    omega (arith, light)
