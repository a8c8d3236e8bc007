-- A local is looked up.
use Rattle.std.proofs.Common.{ap, ◌∙◌, arith}
use Rattle.nl_exec_meaning.specs.Cases as case
use Rattle.nl_exec_meaning.specs.Code.{name_of}
use Rattle.nl_exec_meaning.specs.Variables.{read_local}
use Rattle.nl_exec_meaning.specs.Code.{node_at}
use Rattle.nl_exec_meaning.specs.Meaning.{cases}
use Rattle.nl_exec_meaning.specs.Seen.{state_of}
use Rattle.nl_exec_meaning.proofs.Weights.{weight_positive}
use Rattle.nl_exec_meaning.specs.declared.frames.Next.TheVariants.{Answer}
use Rattle.nl_exec_dispatch.proofs.Entering.{cases_out}
use Rattle.nl_exec_levels.proofs.Following.{comes_to}
use Rattle.nl_exec_levels.proofs.begins.begin_local.Goals as goal

pub returns-clause-rest : goal.returns-clause-rest
returns-clause-rest g c =
    let code = c.args.code.now in
    let t = node_at code c.args.node in
    comes_to code c.args.levels.now.items c.args.node (λ prev s. cases code.program prev t s)
    c.follow.new.levels.items c.in_ok-focus.focus (Answer c.in_ok-exit.exit) c.args.hands.now c.args.hands.now
    c.in_ok-focus.ensures.rest (λ prev units thrifty.
    let s = state_of code.names c.args.hands.now units in
    c.in_ok-exit.ensures.meaning units ∙ ap (λ x. read_local (name_of code.names c.args.id) x s) c.span.ensures
    ∙ cases_out code.program prev t s (case.Local (name_of code.names c.args.id)) c.requires.is)

pub returns-clause-work : goal.returns-clause-work
returns-clause-work g c = omega (arith, c.in_ok-focus.ensures.work, weight_positive (node_at c.args.code.now c.args.node))
