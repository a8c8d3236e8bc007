-- An act is one of the cases of words.
use Rattle.std.specs.Prelude.{[]}
use Rattle.nl_exec_meaning.specs.Code.{node_at}
use Rattle.nl_exec_meaning.specs.Meaning.{built_case}
use Rattle.nl_exec_meaning.specs.Frames.{parts_from}
use Rattle.nl_exec_dispatch.proofs.Entering.{act_out, means_too}
use Rattle.nl_exec_dispatch.proofs.dispatch.enter_built.Goals as goal

pub returns-in-Act-clause-meaning : goal.returns-in-Act-clause-meaning
returns-in-Act-clause-meaning g c =
    let code = c.args.code.now in
    let t = node_at code c.args.node in
    means_too code c.enter_parts.result c.enter_parts.new.hands c.args.hands.now
    (λ prev s. parts_from code prev t 0 [] s)
    (λ prev s. built_case c.args.word c.args.breed code.program c.args.runs prev t s)
    (λ prev s. act_out code prev t s c.args.runs c.args.breed c.args.word c.in-Act.field-0 c.requires.is c.in-Act.is)
    c.enter_parts.ensures.meaning
