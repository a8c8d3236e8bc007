-- A level on top is gone through first.
use Rattle.std.proofs.Common.{◌<◌, length, ◌∙◌, arith, sym}
use Rattle.nl_exec_meaning.specs.Seen.{state_of}
use Rattle.nl_exec_levels.specs.declared.focus.Focus.TheVariants.{Give}
use Rattle.nl_exec_levels.proofs.Stack.{rest_push}
use Rattle.nl_exec_levels.proofs.run.resume_level.Goals as goal

pub returns-clause-rest : goal.returns-clause-rest
returns-clause-rest g c = λ n.
    let code = c.args.code.now in
    let ls = c.args.levels.now.items in
    let lt : length ls < c.args.limit = omega (arith, c.args.levels.now.ok.0) in
    c.in_ok-focus.ensures.rest c.args.limit n lt
    ∙ sym (rest_push code c.args.limit ls c.args.level (Give c.args.exit) (state_of code.names c.args.hands.now n))
